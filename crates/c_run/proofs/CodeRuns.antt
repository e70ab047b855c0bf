-- What statements do, what lists of statements, arms and groups do from a place on, and what a loop does after a turn.
use Rattle.std.proofs.Math.Path.{fun_ext}
use Rattle.std.proofs.Common.{◌≡◌, ℕ, zero, suc, ◌+◌, ◌-◌, ◌<◌, ◌≤◌, nat_eq, ◌||◌, Bool, true, false, List, [], ◌∷◌, length, get_or, map, drop, Option, Some, None, Result, Ok, Err, IfOk, if◌then◌else◌, refl, sym, ap, ◌∙◌, arith}
use Rattle.std.specs.List.{list_any}
use Rattle.dream_words.specs.declared.machine.Name.{Name}
use Rattle.dream_words.specs.declared.machine.Width.{Width}
use Rattle.dream_words.specs.declared.outcome.Outcome.{Outcome}
use Rattle.run_parts.specs.Parts.{always, after, Run, Ends, Past, Stuck, skip, on, decide, first_arm, caught, has, group_of, given, goes_on, Goes, round, turn, rounds, repeat}
use Rattle.run_parts.specs.Steps.{done, having}
use Rattle.run_parts.specs.World.{World}
use Rattle.run_parts.specs.Effects.{setting, loading, storing, calling}
use Rattle.c_syntax.specs.declared.syntax.CExpr.{CExpr}
use Rattle.c_syntax.specs.declared.syntax.CCond.{CCond}
use Rattle.c_syntax.specs.declared.syntax.CStmt.{CStmt, CStmt-F, roll-CStmt, map-CStmt, fold-CStmt, fold-roll-CStmt, Set, Load, Store, Ext, Trap, If, Switch, Loop, While, DoWhile}
use Rattle.c_syntax.specs.declared.syntax.CStmt.TheVariants.{rolls-Set, rolls-Load, rolls-Store, rolls-Ext, rolls-Trap, rolls-If, rolls-Switch, rolls-Loop, rolls-While, rolls-DoWhile}
use Rattle.c_syntax.specs.declared.syntax.CArm.{CArm, out-CArm, fold_out-CArm}
use Rattle.c_syntax.specs.declared.syntax.CGroup.{CGroup, out-CGroup, fold_out-CGroup}
use Rattle.c_run.specs.declared.state.End.TheVariants as end
use Rattle.c_run.specs.declared.state.Flow.{Flow}
use Rattle.c_run.specs.declared.state.Flow.TheVariants as flow
use Rattle.c_syntax.specs.Run.{Part, Test, word_in, holds, does_trap, stmt_at, arm_at, group_at, run}
use Rattle.c_run.specs.RunBy.{by_answers, does_ext_by, stmt_by, run_by, run_arm_by, run_group_by, run_all_by}
use Rattle.c_run.specs.State.{leads}
use Rattle.c_run.proofs.States.{drop_here}

-- whether a number stands in a list, either way round
either_way : (y x : ℕ) → nat_eq y x ≡ nat_eq x y
either_way y x = grind arith

first_or : (b c : Bool) (p q : Bool) → b ≡ c → p ≡ q → (b || p) ≡ (if c then true else q)
first_or b true p q e f = ap (λ x. x || p) e
first_or b false p q e f = ap (λ x. x || p) e ∙ f

pub any_has : (xs : List ℕ) (x : ℕ) → list_any (λ y. nat_eq y x) xs ≡ has xs x
any_has [] x = refl
any_has (y ∷ ys) x = first_or (nat_eq y x) (nat_eq x y) (list_any (λ z. nat_eq z x) ys) (has ys x) (either_way y x) (any_has ys x)

-- what holds of an answer holds in other words
pub in_other_words : {A E : Type 0} (P Q : A → Type 0) → ((a : A) → P a → Q a) → (r : Result A E) → IfOk r P → IfOk r Q
in_other_words P Q f (Ok a) h = f a h
in_other_words P Q f (Err e) h = h

-- ---- layers

-- a statement does what its layer's clause says
pub run_by_layer : (d : ℕ → Part) (y : CStmt-F CStmt CArm CGroup) → run_by d (roll-CStmt y) ≡ stmt_by d (map-CStmt CStmt CArm CGroup Part (Test × Part) (List ℕ × Part) (run_by d) (run_arm_by d) (run_group_by d) y)
run_by_layer d y = fold-roll-CStmt Part (Test × Part) (List ℕ × Part) (stmt_by d) arm_at group_at y

-- where a call takes the next answer, a call of a word that may be stuck
answers_given : (o : Option ℕ) (m : ℕ) (w : World) → done (having o (λ target. calling target w)) m ≡ given o by_answers m w
answers_given None m w = refl
answers_given (Some target) m w = refl

-- where a call takes the next answer, statements do by their parts what they do in the run of a function
stmt_by_answers : (y : CStmt-F Part (Test × Part) (List ℕ × Part)) → stmt_by by_answers y ≡ stmt_at y
stmt_by_answers (CStmt-F.Set n e) = refl
stmt_by_answers (CStmt-F.Load n width e) = refl
stmt_by_answers (CStmt-F.Store width e f) = refl
stmt_by_answers (CStmt-F.Ext e) = fun_ext (λ m. fun_ext (λ w. sym (answers_given (word_in e w) m w)))
stmt_by_answers (CStmt-F.Trap vector e) = refl
stmt_by_answers (CStmt-F.If arms last) = refl
stmt_by_answers (CStmt-F.Switch e groups last) = refl
stmt_by_answers (CStmt-F.Loop body) = refl
stmt_by_answers (CStmt-F.While t body) = refl
stmt_by_answers (CStmt-F.DoWhile body t) = refl
stmt_by_answers CStmt-F.Break = refl
stmt_by_answers CStmt-F.Return = refl

-- and so they do whole
pub run_by_answers : run_by by_answers ≡ run
run_by_answers = ap (λ at. fold-CStmt Part (Test × Part) (List ℕ × Part) at arm_at group_at) (fun_ext stmt_by_answers)

-- ---- places in lists

-- past its end a list is empty
pub drop_past : {X : Type 0} (xs : List X) (i : ℕ) → length xs ≤ i → drop i xs ≡ []
drop_past [] zero l = refl
drop_past [] (suc i) l = refl
drop_past (x ∷ xs) zero l = absurd (omega (arith, l))
drop_past (x ∷ xs) (suc i) l = drop_past xs i (omega (arith, l))

pub arm_at_place : (d : ℕ → Part) (arms : List CArm) (i : ℕ) (a : CArm) (last : Part) (m : ℕ) (w : World) (o : Option Bool) → i < length arms → a ≡ get_or arms i a → holds (out-CArm a).test w ≡ o
    → first_arm (map (run_arm_by d) (drop i arms)) last m w ≡ decide o (run_all_by d (out-CArm a).body) (first_arm (map (run_arm_by d) (drop (i + 1) arms)) last) m w
arm_at_place d arms i a last m w o l e y =
    ap (λ xs. first_arm (map (run_arm_by d) xs) last m w) (drop_here i arms a l e)
    ∙ ap (λ (x : Test × Part). decide (x.0 w) x.1 (first_arm (map (run_arm_by d) (drop (i + 1) arms)) last) m w) (fold_out-CArm Part (Test × Part) (List ℕ × Part) (stmt_by d) arm_at group_at a)
    ∙ ap (λ q. decide q (run_all_by d (out-CArm a).body) (first_arm (map (run_arm_by d) (drop (i + 1) arms)) last) m w) y

pub group_at_place : (d : ℕ → Part) (groups : List CGroup) (i : ℕ) (a : CGroup) (last : Part) (x m : ℕ) (w : World) (b : Bool) → i < length groups → a ≡ get_or groups i a → has (out-CGroup a).values x ≡ b
    → group_of (map (run_group_by d) (drop i groups)) last x m w ≡ (if b then run_all_by d (out-CGroup a).body m w else group_of (map (run_group_by d) (drop (i + 1) groups)) last x m w)
group_at_place d groups i a last x m w b l e y =
    ap (λ xs. group_of (map (run_group_by d) xs) last x m w) (drop_here i groups a l e)
    ∙ ap (λ (g : List ℕ × Part). if has g.0 x then g.1 m w else group_of (map (run_group_by d) (drop (i + 1) groups)) last x m w) (fold_out-CGroup Part (Test × Part) (List ℕ × Part) (stmt_by d) arm_at group_at a)
    ∙ ap (λ q. if q then run_all_by d (out-CGroup a).body m w else group_of (map (run_group_by d) (drop (i + 1) groups)) last x m w) y

-- ---- statements

-- what stands after the arms
abbrev pub last_run : (ℕ → Part) → Option (List CStmt) → Part
last_run d None = skip
last_run d (Some body) = run_all_by d body

pub run_if : (d : ℕ → Part) (arms : List CArm) (last : Option (List CStmt)) (m : ℕ) (w : World) → run_by d (If arms last) m w ≡ first_arm (map (run_arm_by d) arms) (last_run d last) m w
run_if d arms None m w =
    ap (λ s. run_by d s m w) (sym (rolls-If arms None)) ∙ ap (λ (r : Part). r m w) (run_by_layer d (CStmt-F.If arms None))
run_if d arms (Some last) m w =
    ap (λ s. run_by d s m w) (sym (rolls-If arms (Some last))) ∙ ap (λ (r : Part). r m w) (run_by_layer d (CStmt-F.If arms (Some last)))

pub run_switch : (d : ℕ → Part) (e : CExpr) (groups : List CGroup) (last : List CStmt) (m : ℕ) (w : World)
    → run_by d (Switch e groups last) m w ≡ on (given (word_in e w) (group_of (map (run_group_by d) groups) (run_all_by d last)) m w) caught
run_switch d e groups last m w =
    ap (λ s. run_by d s m w) (sym (rolls-Switch e groups last)) ∙ ap (λ (r : Part). r m w) (run_by_layer d (CStmt-F.Switch e groups last))

pub run_set : (d : ℕ → Part) (n : Name) (a : CExpr) (m : ℕ) (w : World) → run_by d (Set n a) m w ≡ done (having (word_in a w) (λ x. setting n x w)) m
run_set d n a m w = ap (λ s. run_by d s m w) (sym (rolls-Set n a)) ∙ ap (λ (r : Part). r m w) (run_by_layer d (CStmt-F.Set n a))

pub run_load : (d : ℕ → Part) (n : Name) (width : Width) (a : CExpr) (m : ℕ) (w : World) → run_by d (Load n width a) m w ≡ done (having (word_in a w) (λ at. loading n width at w)) m
run_load d n width a m w = ap (λ s. run_by d s m w) (sym (rolls-Load n width a)) ∙ ap (λ (r : Part). r m w) (run_by_layer d (CStmt-F.Load n width a))

pub run_store : (d : ℕ → Part) (width : Width) (a b : CExpr) (m : ℕ) (w : World) → run_by d (Store width a b) m w ≡ done (having (word_in a w) (λ at. having (word_in b w) (λ x. storing width at x w))) m
run_store d width a b m w = ap (λ s. run_by d s m w) (sym (rolls-Store width a b)) ∙ ap (λ (r : Part). r m w) (run_by_layer d (CStmt-F.Store width a b))

pub run_ext : (d : ℕ → Part) (a : CExpr) (m : ℕ) (w : World) → run_by d (Ext a) m w ≡ does_ext_by d a m w
run_ext d a m w = ap (λ s. run_by d s m w) (sym (rolls-Ext a)) ∙ ap (λ (r : Part). r m w) (run_by_layer d (CStmt-F.Ext a))

pub run_trap : (d : ℕ → Part) (v : ℕ) (a : CExpr) (m : ℕ) (w : World) → run_by d (Trap v a) m w ≡ done (does_trap v a w) m
run_trap d v a m w = ap (λ s. run_by d s m w) (sym (rolls-Trap v a)) ∙ ap (λ (r : Part). r m w) (run_by_layer d (CStmt-F.Trap v a))

pub run_loop : (d : ℕ → Part) (body : List CStmt) (m : ℕ) (w : World) → run_by d (Loop body) m w ≡ repeat always (run_all_by d body) always m w
run_loop d body m w =
    ap (λ s. run_by d s m w) (sym (rolls-Loop body)) ∙ ap (λ (r : Part). r m w) (run_by_layer d (CStmt-F.Loop body))

pub run_while : (d : ℕ → Part) (t : CCond) (body : List CStmt) (m : ℕ) (w : World) → run_by d (While t body) m w ≡ repeat (holds t) (run_all_by d body) always m w
run_while d t body m w =
    ap (λ s. run_by d s m w) (sym (rolls-While t body)) ∙ ap (λ (r : Part). r m w) (run_by_layer d (CStmt-F.While t body))

pub run_do : (d : ℕ → Part) (body : List CStmt) (t : CCond) (m : ℕ) (w : World) → run_by d (DoWhile body t) m w ≡ repeat always (run_all_by d body) (holds t) m w
run_do d body t m w =
    ap (λ s. run_by d s m w) (sym (rolls-DoWhile body t)) ∙ ap (λ (r : Part). r m w) (run_by_layer d (CStmt-F.DoWhile body t))

-- ---- loops

module _ (enter : Test) (body : Part) (again : Test) where
  -- a loop whose test is stuck, one whose test doesn't hold, and one that needs one more turn
  pub rounds_stuck : (g m : ℕ) (w : World) → enter w ≡ None → rounds g enter body again m w ≡ Ends Stuck m
  rounds_stuck zero m w e = ap (λ o. decide o goes_on skip m w) e
  rounds_stuck (suc g) m w e = ap (λ o. decide o (turn body again (rounds g enter body again)) skip m w) e

  pub rounds_over : (g m : ℕ) (w : World) → enter w ≡ Some false → rounds g enter body again m w ≡ Ends (Past w) m
  rounds_over zero m w e = ap (λ o. decide o goes_on skip m w) e
  rounds_over (suc g) m w e = ap (λ o. decide o (turn body again (rounds g enter body again)) skip m w) e

  pub rounds_go : (g m : ℕ) (w : World) → enter w ≡ Some true → m ≡ 0 → rounds g enter body again m w ≡ Goes w
  rounds_go zero m w e z = ap (λ o. decide o goes_on skip m w) e
  rounds_go (suc g) m w e z = ap (λ k. rounds (suc g) enter body again k w) z ∙ ap (λ o. decide o (turn body again (rounds g enter body again)) skip 0 w) e

  -- after a turn that leads on, the rest of the loop does what the loop does
  pub rounds_turn : (g m : ℕ) (w : World) (x : Run World Outcome) → enter w ≡ Some true → 0 < m → m ≤ g → x ≡ body (m - 1) w
      → rounds g enter body again m w ≡ on x (round again (rounds (g - 1) enter body again))
  rounds_turn zero m w x e l b h = absurd (let z : ⊥ = omega (arith, l, b) in z)
  rounds_turn (suc g) zero w x e l b h = absurd (let z : ⊥ = omega (arith, l) in z)
  rounds_turn (suc g) (suc m) w x e l b h =
      ap (λ o. decide o (turn body again (rounds g enter body again)) skip (suc m) w) e
      ∙ ap (λ r. on r (round again (rounds g enter body again))) (ap (λ k. body k w) (let z : m ≡ suc m - 1 = omega arith in z) ∙ sym h)
      ∙ ap (λ k. on x (round again (rounds k enter body again))) (let z : g ≡ suc g - 1 = omega arith in z)

  -- after a turn that leads to the test after it
  pub rounds_after : (g m f : ℕ) (w v : World) (o : Option Bool) → enter w ≡ Some true → 0 < m → m ≤ g → Ends (Past v) f ≡ body (m - 1) w → again v ≡ o
      → rounds g enter body again m w ≡ decide o (rounds (g - 1) enter body again) skip f v
  rounds_after g m f w v o e l b h y = rounds_turn g m w (Ends (Past v) f) e l b h ∙ ap (λ q. decide q (rounds (g - 1) enter body again) skip f v) y

-- what the statements from a place on do
pub stmt_at_place : (d : ℕ → Part) (body : List CStmt) (i : ℕ) (s : CStmt) (m : ℕ) (w : World) → i < length body → s ≡ get_or body i s
    → run_all_by d (drop i body) m w ≡ on (run_by d s m w) (after (run_all_by d (drop (i + 1) body)))
stmt_at_place d body i s m w l e = ap (λ xs. run_all_by d xs m w) (drop_here i body s l e)

-- ---- flows that end

pub ends_stay : (f : Flow) (m : ℕ) (w : World) (b : Part) → (f ≡ flow.Next → ⊥) → on (leads f m w) (after b) ≡ leads f m w
ends_stay flow.Next m w b h = absurd (h refl)
ends_stay flow.Left m w b h = refl
ends_stay (flow.Ends end.Returned) m w b h = refl
ends_stay (flow.Ends (end.Faulted v at)) m w b h = refl
ends_stay (flow.Ends end.Asking) m w b h = refl
ends_stay (flow.Ends end.Stuck) m w b h = refl
ends_stay (flow.Ends end.Going) m w b h = refl

pub loop_ends : (f : Flow) (m : ℕ) (w : World) (again : Test) (next : Part) → (f ≡ flow.Next → ⊥) → (f ≡ flow.Left → ⊥) → on (leads f m w) (round again next) ≡ leads f m w
loop_ends flow.Next m w again next h i = absurd (h refl)
loop_ends flow.Left m w again next h i = absurd (i refl)
loop_ends (flow.Ends end.Returned) m w again next h i = refl
loop_ends (flow.Ends (end.Faulted v at)) m w again next h i = refl
loop_ends (flow.Ends end.Asking) m w again next h i = refl
loop_ends (flow.Ends end.Stuck) m w again next h i = refl
loop_ends (flow.Ends end.Going) m w again next h i = refl
