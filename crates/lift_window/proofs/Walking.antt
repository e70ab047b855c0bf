-- Along the path of a window: each step lifts one instruction, until none is left.
use Rattle.std.proofs.Common.{◌≡◌, ◌⊎◌, inl, inr, ℕ, zero, suc, ◌+◌, ◌-◌, ◌%◌, ◌^◌, ◌<◌, ◌≤◌, Bool, true, false, List, [], ◌∷◌, ◌++◌, length, take, Option, Some, None, refl, sym, ap, ◌∙◌, subst, arith, append-nil, append_assoc, length-append}
use Rattle.std.specs.Prelude.{unwrap_or}
use Rattle.elf_image.specs.declared.image.Segment.{Segment}
use Rattle.elf_image.specs.declared.range.Range.{Range}
use Rattle.elf_image.specs.Range.{bytes_to_end}
use Rattle.x86_inst.specs.declared.Inst.{Inst}
use Rattle.x86_inst.specs.declared.Inst.TheVariants as i
use Rattle.x86_formed.specs.Formed.{HasSpelling}
use Rattle.machine.specs.Code.{BeginsAt}
use Rattle.micro_ir.specs.declared.flow.Block.{Block}
use Rattle.micro_ir.specs.declared.flow.Stmt.{Stmt}
use Rattle.lift_parts.specs.Lifted.{AreBlocksOf, block_count}
use Rattle.lift.specs.Given.{leaves_bare}
use Rattle.jump_tables.specs.Forms.{is_on_path}
use Rattle.jump_tables.specs.declared.table.TableWindow.{TableWindow}
use Rattle.jump_tables.specs.Window.{IsInstAt, IsPath, IsWindow, next_of, over, onward}
use Rattle.machine.proofs.Beginnings.{decodes}
use Rattle.machine.proofs.Fetching.{decoded_is}
use Rattle.window_steps.proofs.Paths.{path_move, mov, movzx, lea, shl, add, Move}
use Rattle.window_blocks.specs.Path.{LiftedPath, none, more}
use Rattle.lift_window.specs.Walk.{IsPut, IsStepped, IsWalked, JumpsAt, is_word_jump}

same_pair : (x y : Inst) (n k : ℕ) → ◌≡◌ {A = Option (Inst × ℕ)} (Some (x, n)) (Some (y, k)) → (n ≡ k) × (x ≡ y)
same_pair x y n k e = (ap (λ (q : Option (Inst × ℕ)). (unwrap_or q (i.Nop, 0)).1) e, ap (λ (q : Option (Inst × ℕ)). (unwrap_or q (i.Nop, 0)).0) e)

-- one instruction at most begins at an address
pub one_at : (m : List Segment) (r : Range) (a : ℕ) (x y : Inst) (n k : ℕ) → BeginsAt m r a x n → BeginsAt m r a y k → (n ≡ k) × (x ≡ y)
one_at m r a x y n k b c =
    let d = decodes m r in
    same_pair x y n k (sym (decoded_is m r d.0 a x n d.1 b) ∙ decoded_is m r d.0 a y k d.1 c)

-- what is found where an instruction begins
pub found_is : (m : List Segment) (r : Range) (a : ℕ) (x : Inst) (n : ℕ) (d : Option (Inst × ℕ)) → IsInstAt m r a d → BeginsAt m r a x n → d ≡ Some (x, n)
found_is m r a x n None h b = absurd (h x n b)
found_is m r a x n (Some (y, k)) h b = let e = one_at m r a y x k n h b in (λ t. Some (e.1 t, e.0 t))

pub never_none : (m : List Segment) (r : Range) (a : ℕ) (x : Inst) (n : ℕ) (d : Option (Inst × ℕ)) → IsInstAt m r a d → BeginsAt m r a x n → d ≡ None → ⊥
never_none m r a x n d h b e = let f : ◌≡◌ {A = Option (Inst × ℕ)} None (Some (x, n)) = sym e ∙ found_is m r a x n d h b in let z : ⊥ = cc in z

-- the instruction that is found, and its length
pub found_as : (m : List Segment) (r : Range) (a : ℕ) (x y : Inst) (n k : ℕ) (d : Option (Inst × ℕ)) → IsInstAt m r a d → BeginsAt m r a x n → d ≡ Some (y, k) → (k ≡ n) × (y ≡ x)
found_as m r a x y n k d h b e = same_pair y x k n (sym e ∙ found_is m r a x n d h b)

-- an instruction that is no jump by a word may be lifted
pub not_word_jump : (x : Inst) → is_word_jump x ≡ false → leaves_bare x ≡ true
not_word_jump (i.Alu a b c d) h = refl
not_word_jump (i.Inc a b) h = refl
not_word_jump (i.Dec a b) h = refl
not_word_jump (i.Push a) h = refl
not_word_jump (i.Pop a) h = refl
not_word_jump (i.Imul3 a b c d) h = refl
not_word_jump (i.Jcc a b) h = refl
not_word_jump (i.Test a b c) h = refl
not_word_jump (i.Xchg a b c) h = refl
not_word_jump (i.Mov a b c) h = refl
not_word_jump (i.Lea a b c) h = refl
not_word_jump i.Nop h = refl
not_word_jump (i.Widen a) h = refl
not_word_jump (i.Spread a) h = refl
not_word_jump (i.Str a b c d) h = refl
not_word_jump (i.Shift a b c d) h = refl
not_word_jump (i.Ret a) h = refl
not_word_jump i.Leave h = refl
not_word_jump (i.Trap a) h = refl
not_word_jump (i.Loop a) h = refl
not_word_jump (i.Jecxz a) h = refl
not_word_jump (i.Call a) h = refl
not_word_jump (i.Jmp a) h = refl
not_word_jump (i.Carry a) h = refl
not_word_jump (i.Not a b) h = refl
not_word_jump (i.Neg a b) h = refl
not_word_jump (i.Mul a b) h = refl
not_word_jump (i.ImulWide a b) h = refl
not_word_jump (i.Div a b) h = refl
not_word_jump (i.Idiv a b) h = refl
not_word_jump (i.CallTo a) h = refl
not_word_jump (i.JmpTo a) h = absurd (let z : ⊥ = cc in z)
not_word_jump (i.Cmov a b c d) h = refl
not_word_jump (i.Set a b) h = refl
not_word_jump (i.Bit a b c d) h = refl
not_word_jump (i.DShift a b c d) h = refl
not_word_jump (i.Imul2 a b c) h = refl
not_word_jump (i.Movx a b c d e) h = refl
not_word_jump (i.Scan a b c d e) h = refl
not_word_jump (i.Bswap a) h = refl

-- ---- a block that is put at the end

move_one : (x : Inst) → Move x → block_count x ≡ 1
move_one _ (mov size d s) = refl
move_one _ (movzx from to d s) = refl
move_one _ (lea size d m) = refl
move_one _ (shl size d c g) = refl
move_one _ (add size d v) = refl

-- the last one of one block is that one
last_of_one : (blocks rest : List Block) (b : Block) → blocks ≡ rest ++ b ∷ [] → length blocks ≡ 1 → blocks ≡ b ∷ []
last_of_one blocks [] b e l = e
last_of_one blocks (c ∷ rest) b e l =
    let long = ap length e in
    let more' = length-append rest (b ∷ []) in
    let first : length (c ∷ (rest ++ b ∷ [])) ≡ suc (length (rest ++ b ∷ [])) = refl in
    let one : length (b ∷ []) ≡ 1 = refl in
    absurd (let z : ⊥ = omega (arith, l, long, more', first, one) in z)

pub put_one : (x : Inst) (at next : ℕ) (blocks rest : List Block) (b : Block) (old : List Stmt) → blocks ≡ rest ++ b ∷ [] → (HasSpelling x → AreBlocksOf x at next blocks) → IsPut x at next old (old ++ b.stmts)
put_one x at next blocks rest b old e are = λ on spelled.
    let a = are spelled in
    let one : blocks ≡ b ∷ [] = last_of_one blocks rest b e (a.count ∙ move_one x (path_move x on)) in
    (b, subst (λ bs. AreBlocksOf x at next bs) one a, refl)

pub put_none : (x : Inst) (at next : ℕ) (blocks : List Block) (old : List Stmt) → blocks ≡ [] → (HasSpelling x → AreBlocksOf x at next blocks) → IsPut x at next old old
put_none x at next blocks old e are = λ on spelled.
    let a = are spelled in
    let some : length blocks ≡ 1 = a.count ∙ move_one x (path_move x on) in
    let none' : length blocks ≡ 0 = ap length e in
    absurd (let z : ⊥ = omega (arith, some, none') in z)

-- ---- a step

no_jump_on_path : (x : Inst) → is_word_jump x ≡ true → is_on_path x ≡ true → ⊥
no_jump_on_path (i.Alu a b c d) h on = let z : ⊥ = cc in z
no_jump_on_path (i.Inc a b) h on = let z : ⊥ = cc in z
no_jump_on_path (i.Dec a b) h on = let z : ⊥ = cc in z
no_jump_on_path (i.Push a) h on = let z : ⊥ = cc in z
no_jump_on_path (i.Pop a) h on = let z : ⊥ = cc in z
no_jump_on_path (i.Imul3 a b c d) h on = let z : ⊥ = cc in z
no_jump_on_path (i.Jcc a b) h on = let z : ⊥ = cc in z
no_jump_on_path (i.Test a b c) h on = let z : ⊥ = cc in z
no_jump_on_path (i.Xchg a b c) h on = let z : ⊥ = cc in z
no_jump_on_path (i.Mov a b c) h on = let z : ⊥ = cc in z
no_jump_on_path (i.Lea a b c) h on = let z : ⊥ = cc in z
no_jump_on_path i.Nop h on = let z : ⊥ = cc in z
no_jump_on_path (i.Widen a) h on = let z : ⊥ = cc in z
no_jump_on_path (i.Spread a) h on = let z : ⊥ = cc in z
no_jump_on_path (i.Str a b c d) h on = let z : ⊥ = cc in z
no_jump_on_path (i.Shift a b c d) h on = let z : ⊥ = cc in z
no_jump_on_path (i.Ret a) h on = let z : ⊥ = cc in z
no_jump_on_path i.Leave h on = let z : ⊥ = cc in z
no_jump_on_path (i.Trap a) h on = let z : ⊥ = cc in z
no_jump_on_path (i.Loop a) h on = let z : ⊥ = cc in z
no_jump_on_path (i.Jecxz a) h on = let z : ⊥ = cc in z
no_jump_on_path (i.Call a) h on = let z : ⊥ = cc in z
no_jump_on_path (i.Jmp a) h on = let z : ⊥ = cc in z
no_jump_on_path (i.Carry a) h on = let z : ⊥ = cc in z
no_jump_on_path (i.Not a b) h on = let z : ⊥ = cc in z
no_jump_on_path (i.Neg a b) h on = let z : ⊥ = cc in z
no_jump_on_path (i.Mul a b) h on = let z : ⊥ = cc in z
no_jump_on_path (i.ImulWide a b) h on = let z : ⊥ = cc in z
no_jump_on_path (i.Div a b) h on = let z : ⊥ = cc in z
no_jump_on_path (i.Idiv a b) h on = let z : ⊥ = cc in z
no_jump_on_path (i.CallTo a) h on = let z : ⊥ = cc in z
no_jump_on_path (i.JmpTo a) h on = let z : ⊥ = cc in z
no_jump_on_path (i.Cmov a b c d) h on = let z : ⊥ = cc in z
no_jump_on_path (i.Set a b) h on = let z : ⊥ = cc in z
no_jump_on_path (i.Bit a b c d) h on = let z : ⊥ = cc in z
no_jump_on_path (i.DShift a b c d) h on = let z : ⊥ = cc in z
no_jump_on_path (i.Imul2 a b c) h on = let z : ⊥ = cc in z
no_jump_on_path (i.Movx a b c d e) h on = let z : ⊥ = cc in z
no_jump_on_path (i.Scan a b c d e) h on = let z : ⊥ = cc in z
no_jump_on_path (i.Bswap a) h on = let z : ⊥ = cc in z

module _ (m : List Segment) (r : Range) (at : ℕ) (old : List Stmt) where
  -- nothing is done where the path ends
  ended : (from to : ℕ) (insts done : List Inst) (left : ℕ) → done ++ [] ≡ insts → LiftedPath m r from at done old → IsPath m r to at [] → IsWalked m r from to insts left at old
  ended from to insts done left e l p = record { done = done; rest = []; all = e; lifted = l; path = p; few = omega arith }

  -- where an instruction of a path begins, it is the one that is found
  stays_by : (from to : ℕ) (insts done rest : List Inst) (left : ℕ) → ((x : Inst) (n : ℕ) → BeginsAt m r at x n → is_on_path x ≡ true → ⊥) → done ++ rest ≡ insts → LiftedPath m r from at done old
      → IsPath m r to at rest → IsWalked m r from to insts left at old
  stays_by from to insts done _ left none' e l over = ended from to insts done left e l over
  stays_by from to insts done _ left none' e l (onward a n x rest b on p) = absurd (none' x n b on)

  pub step_none : ((x : Inst) (n : ℕ) → BeginsAt m r at x n → ⊥) → IsStepped m r at old old at
  step_none none' = λ from to insts left jumps w. stays_by from to insts w.done w.rest left (λ x n b on. none' x n b) w.all w.lifted w.path

  pub step_jump : (y : Inst) (k : ℕ) → BeginsAt m r at y k → is_word_jump y ≡ true → IsStepped m r at old old at
  step_jump y k b j = λ from to insts left jumps w.
      stays_by from to insts w.done w.rest left (λ x n c on. no_jump_on_path x (subst (λ z. is_word_jump z ≡ true) (one_at m r at y x k n b c).1 j) on) w.all w.lifted w.path

  -- one instruction more is lifted
  more_by : (y : Inst) (k : ℕ) (new : List Stmt) (from to : ℕ) (insts done rest : List Inst) (left : ℕ) → BeginsAt m r at y k → is_word_jump y ≡ false → IsPut y at (next_of at k) old new → JumpsAt m r to
      → done ++ rest ≡ insts → LiftedPath m r from at done old → IsPath m r to at rest → length rest ≤ suc left → IsWalked m r from to insts left (next_of at k) new
  more_by y k new from _ insts done _ left b j put jumps e l over few =
      let same = (one_at m r at y (i.JmpTo jumps.goal) k jumps.size b jumps.begins).1 in
      absurd (let z : is_word_jump (i.JmpTo jumps.goal) ≡ false = subst (λ x. is_word_jump x ≡ false) same j in let t : ⊥ = cc in t)
  more_by y k new from to insts done _ left b j put jumps e l (onward a n x rest c on p) few =
      let same = one_at m r at y x k n b c in
      let on_y : is_on_path y ≡ true = subst (λ z. is_on_path z ≡ true) (sym same.1) on in
      let (block, blocks, stmts) = put on_y (take k (bytes_to_end m r at), b.spelled) in
      let long : length (x ∷ rest) ≡ suc (length rest) = refl in
      record {
        done = done ++ y ∷ [];
        rest = rest;
        all = append_assoc done (y ∷ []) rest ∙ ap (λ z. done ++ z ∷ rest) same.1 ∙ e;
        lifted = subst (λ ss. LiftedPath m r from (next_of at k) (done ++ y ∷ []) ss) (sym stmts) (more at k done y old block l b on_y blocks);
        path = subst (λ q. IsPath m r to (next_of at q) rest) (sym same.0) p;
        few = omega (arith, few, long);
      }

  pub step_more : (y : Inst) (k : ℕ) (new : List Stmt) → BeginsAt m r at y k → is_word_jump y ≡ false → IsPut y at (next_of at k) old new → IsStepped m r at old new (next_of at k)
  step_more y k new b j put = λ from to insts left jumps w. more_by y k new from to insts w.done w.rest left b j put jumps w.all w.lifted w.path w.few

-- ---- the whole path

module _ (m : List Segment) (r : Range) (a : ℕ) (w : TableWindow) (win : IsWindow m r a w) where
  pub walk_begins : IsWalked m r w.path w.jump win.insts (4 - 0) w.path []
  walk_begins = record { done = []; rest = win.insts; all = refl; lifted = none; path = win.path; few = win.few }

  pub walk_goes_on : (t at next : ℕ) (old new : List Stmt) → t < 4 → IsStepped m r at old new next → IsWalked m r w.path w.jump win.insts (4 - t) at old → IsWalked m r w.path w.jump win.insts (4 - (t + 1)) next new
  walk_goes_on t at next old new l stepped h =
      let e : 4 - t ≡ suc (4 - (t + 1)) = omega (arith, l) in
      stepped w.path w.jump win.insts (4 - (t + 1)) (record { goal = win.goal; size = win.jump_size; begins = win.jumps })
      (subst (λ n. IsWalked m r w.path w.jump win.insts n at old) e h)

  walk_over_by : (done rest : List Inst) (at : ℕ) (stmts : List Stmt) → done ++ rest ≡ win.insts → LiftedPath m r w.path at done stmts → IsPath m r w.jump at rest → length rest ≤ 0 → LiftedPath m r w.path w.jump win.insts stmts
  walk_over_by done _ _ stmts e l over few = subst (λ insts. LiftedPath m r w.path w.jump insts stmts) (sym (append-nil done) ∙ e) l
  walk_over_by done _ at stmts e l (onward b n x rest c on p) few =
      let long : length (x ∷ rest) ≡ suc (length rest) = refl in
      absurd (let z : ⊥ = omega (arith, few, long) in z)

  pub walk_over : (t at : ℕ) (stmts : List Stmt) → 4 ≤ t → IsWalked m r w.path w.jump win.insts (4 - t) at stmts → LiftedPath m r w.path w.jump win.insts stmts
  walk_over t at stmts l h =
      let e : 4 - t ≡ 0 = omega (arith, l) in
      walk_over_by h.done h.rest at stmts h.all h.lifted h.path (subst (λ n. length h.rest ≤ n) e h.few)
