-- Statements and blocks that keep the rule of flows, aren't stuck, and store and call so many times.
use Rattle.std.proofs.Common.{◌≡◌, ℕ, nat_eq, ◌+◌, ◌-◌, ◌^◌, ◌<◌, ◌≤◌, Bool, true, false, nat_lt, ◌&&◌, List, [], ◌∷◌, ◌++◌, Option, Some, None, refl, subst, lit<, lit≤, arith}
use Rattle.std.specs.Prelude.{IsSome, IsTrue, if◌then◌else◌}
use Rattle.dream_words.specs.declared.machine.Name.{Name}
use Rattle.dream_words.specs.declared.machine.Name.TheVariants as name
use Rattle.dream_words.specs.declared.machine.Width.{Width}
use Rattle.dream_words.specs.Memory.{bytes_of}
use Rattle.dream_words.specs.Pages.{first_bad}
use Rattle.run_parts.specs.Steps.{Next, Halt, Jam, To, End, Nowhere, having, then_do, arrive}
use Rattle.run_parts.specs.World.{World}
use Rattle.run_parts.specs.Effects.{Doing, setting, loading, storing, calling, trapping}
use Rattle.c_syntax.specs.declared.syntax.CBin.TheVariants as op
use Rattle.c_syntax.specs.declared.syntax.CExpr.{CExpr}
use Rattle.c_syntax.specs.Formed.{is_word}
use Rattle.c_syntax.specs.Run.{does_ext}
use Rattle.c_syntax.specs.Value.{word_of}
use Rattle.c_words.specs.Built.{num, bin}
use Rattle.micro_ir.specs.declared.flow.Block.{Block}
use Rattle.micro_ir.specs.declared.flow.End.TheVariants as end
use Rattle.micro_ir.specs.declared.flow.Stmt.{Stmt}
use Rattle.micro_ir.specs.declared.flow.Stmt.TheVariants as stmt
use Rattle.micro_ir.specs.Counts.{stores_of_stmt, stores_of_stmts, calls_of_stmt, calls_of_stmts}
use Rattle.micro_ir.specs.Laws.{ArriveStays}
use Rattle.micro_ir.specs.Rule.{is_flow_target, is_flow_word, is_flow_stmt, are_flow_stmts, is_flow_end, is_flow_block}
use Rattle.micro_ir.specs.Run.{Arrive, stmt_does, stmts_do, branch, left_by, end_leads, block_leads}
use Rattle.micro_ir.specs.World.{IsWorld}
use Rattle.micro_ir.proofs.Worlds.{block_stays}
use Rattle.x86_inst.specs.declared.Operand.{Operand}
use Rattle.x86_inst.specs.declared.Operand.TheVariants as o
use Rattle.x86_inst.specs.declared.Size.{Size}
use Rattle.x86_inst.specs.declared.Size.TheVariants.{B, H, W}
use Rattle.x86_formed.specs.Formed.{is_register, is_formed_operand}
use Rattle.x86_model.specs.Operands.{width_of}
use Rattle.x86_model.specs.Successors.{is_memory}
use Rattle.lift_parts.specs.Lifted.{Stays, once}
use Rattle.lift_parts.specs.Parts.{reg, address_word, reads, pair_reads, with_low_word, with_second_word, set_part, writes, pushes}
use Rattle.lift_parts.proofs.Steady.{IsDone, allowing_done, answered_done, then_done, trap_done}
use Rattle.lift_alu.proofs.Shapes.{flow_word}
use Rattle.lift.proofs.Sound.{IsSound, num_sound, reg_sound, bin_sound, shift_sound, and_mask_sound, deeper_sound, address_sound, high_register}

-- ---- statements

-- Statements keep the rule of flows, are stuck in no world, and have so many stores and calls.
pub record AreSteady (stored called : ℕ) (ss : List Stmt) : Type 0 where
  pub rule : IsTrue (are_flow_stmts ss)
  pub moves : (w : World) → IsDone (stmts_do ss w)
  pub stores : stores_of_stmts ss ≡ stored
  pub calls : calls_of_stmts ss ≡ called

having_done : (x : Option ℕ) (k : ℕ → Doing) → IsSome x → ((y : ℕ) → IsDone (k y)) → IsDone (having x k)
having_done None k h g = absurd cc
having_done (Some y) k h g = g y

both_hold : (p q : Bool) → IsTrue p → IsTrue q → IsTrue (p && q)
both_hold true q h k = k
both_hold false q h k = h

pub none_steady : AreSteady 0 0 []
none_steady = record { rule = refl; moves = λ w. tt; stores = refl; calls = refl }

-- one statement more
more_steady : (s : Stmt) (rest : List Stmt) (a b p q x y : ℕ) → IsTrue (is_flow_stmt s) → ((w : World) → IsDone (stmt_does s w)) → stores_of_stmt s ≡ p → calls_of_stmt s ≡ q
    → x ≡ p + a → y ≡ q + b → AreSteady a b rest → AreSteady x y (s ∷ rest)
more_steady s rest a b p q x y t d e g k l r =
    let i : stores_of_stmts rest ≡ a = r.stores in
    let j : calls_of_stmts rest ≡ b = r.calls in
    record {
      rule = both_hold (is_flow_stmt s) (are_flow_stmts rest) t r.rule;
      moves = λ w. then_done (stmt_does s w) (stmts_do rest) (d w) r.moves;
      stores = omega arith;
      calls = omega arith;
    }

pub set_steady : (n : Name) (d : ℕ) (e : CExpr) (rest : List Stmt) (a b : ℕ) → is_flow_target n ≡ true → d ≤ 64 → IsSound d e → AreSteady a b rest → AreSteady a b (stmt.Set n e ∷ rest)
set_steady n d e rest a b t l h r =
    more_steady (stmt.Set n e) rest a b 0 0 a b (both_hold (is_flow_target n) (is_flow_word e) t (flow_word d e l h.within))
    (λ w. having_done (word_of e w.names) (λ x. setting n x w) (h.gives w.names) (λ x. tt)) refl refl (omega arith) (omega arith) r

pub load_steady : (n : Name) (width : Width) (d : ℕ) (e : CExpr) (rest : List Stmt) (a b : ℕ) → is_flow_target n ≡ true → d ≤ 64 → IsSound d e → AreSteady a b rest
    → AreSteady a b (stmt.Load n width e ∷ rest)
load_steady n width d e rest a b t l h r =
    more_steady (stmt.Load n width e) rest a b 0 0 a b (both_hold (is_flow_target n) (is_flow_word e) t (flow_word d e l h.within))
    (λ w. having_done (word_of e w.names) (λ at. loading n width at w) (h.gives w.names) (λ at. allowing_done (first_bad w.pages.read at (bytes_of width)) w _ tt)) refl refl (omega arith) (omega arith) r

pub store_steady : (width : Width) (d k : ℕ) (e f : CExpr) (rest : List Stmt) (a b : ℕ) → d ≤ 64 → k ≤ 64 → IsSound d e → IsSound k f → AreSteady a b rest
    → AreSteady (1 + a) b (stmt.Store width e f ∷ rest)
store_steady width d k e f rest a b l m h g r =
    more_steady (stmt.Store width e f) rest a b 1 0 (1 + a) b (both_hold (is_flow_word e) (is_flow_word f) (flow_word d e l h.within) (flow_word k f m g.within))
    (λ w. having_done (word_of e w.names) (λ at. having (word_of f w.names) (λ x. storing width at x w)) (h.gives w.names)
    (λ at. having_done (word_of f w.names) (λ x. storing width at x w) (g.gives w.names) (λ x. allowing_done (first_bad w.pages.write at (bytes_of width)) w _ tt))) refl refl refl (omega arith) r

pub ext_steady : (d : ℕ) (e : CExpr) (rest : List Stmt) (a b : ℕ) → d ≤ 64 → IsSound d e → AreSteady a b rest → AreSteady a (1 + b) (stmt.Ext e ∷ rest)
ext_steady d e rest a b l h r =
    more_steady (stmt.Ext e) rest a b 0 1 a (1 + b) (flow_word d e l h.within)
    (λ w. having_done (word_of e w.names) (λ x. calling x w) (h.gives w.names) (λ x. answered_done w.left _ w)) refl refl (omega arith) refl r

pub trap_steady : (vector d : ℕ) (e : CExpr) (rest : List Stmt) (a b : ℕ) → is_word vector ≡ true → d ≤ 64 → IsSound d e → AreSteady a b rest → AreSteady a b (stmt.Trap vector e ∷ rest)
trap_steady vector d e rest a b t l h r =
    more_steady (stmt.Trap vector e) rest a b 0 0 a b (both_hold (is_word vector) (is_flow_word e) t (flow_word d e l h.within))
    (λ w. having_done (word_of e w.names) (λ x. trapping vector x w) (h.gives w.names) (λ x. trap_done (nat_eq x 0) w _)) refl refl (omega arith) (omega arith) r

-- ---- reads

pub reads_steady : (size : Size) (p : Operand) (rest : List Stmt) (a b : ℕ) → is_formed_operand p ≡ true → AreSteady a b rest → AreSteady a b (reads size p ++ rest)
reads_steady size (o.Reg n) rest a b t r = r
reads_steady size (o.Imm k) rest a b t r = r
reads_steady size (o.Mem m) rest a b t r = load_steady (name.T 0) (width_of size) 5 (address_word m) rest a b refl (lit≤ tt) (address_sound m t) r

pub reads_end : (size : Size) (p : Operand) → reads size p ++ [] ≡ reads size p
reads_end size (o.Reg n) = refl
reads_end size (o.Imm k) = refl
reads_end size (o.Mem m) = refl

pair_by : (c : Bool) (size : Size) (d s : Operand) (rest : List Stmt) (a b : ℕ) → is_formed_operand d ≡ true → is_formed_operand s ≡ true → AreSteady a b rest
    → AreSteady a b ((if c then reads size d else reads size s) ++ rest)
pair_by true size d s rest a b t u r = reads_steady size d rest a b t r
pair_by false size d s rest a b t u r = reads_steady size s rest a b u r

pub pair_reads_steady : (size : Size) (d s : Operand) (rest : List Stmt) (a b : ℕ) → is_formed_operand d ≡ true → is_formed_operand s ≡ true → AreSteady a b rest
    → AreSteady a b (pair_reads size d s ++ rest)
pair_reads_steady size d s rest a b t u r = pair_by (is_memory d) size d s rest a b t u r

-- ---- writes

target_reg : (n : ℕ) → is_register n ≡ true → is_flow_target (name.Reg n) ≡ true
target_reg n t = both_hold (nat_lt n 8) true t refl

kept_low_sound : (keep mask n : ℕ) (e : CExpr) → keep < 2 ^ 32 → mask < 2 ^ 32 → is_register n ≡ true → IsSound 10 e → IsSound 12 (with_low_word keep mask n e)
kept_low_sound keep mask n e l m t h =
    bin_sound 11 op.Or (bin op.And (reg n) (num keep)) (bin op.And e (num mask)) refl
    (and_mask_sound 10 (reg n) keep (lit≤ tt) l (deeper_sound 1 10 (reg n) (lit≤ tt) (reg_sound n t))) (and_mask_sound 10 e mask (lit≤ tt) m h)

second_sound : (n : ℕ) (e : CExpr) → is_register n ≡ true → IsSound 10 e → IsSound 14 (with_second_word n e)
second_sound n e t h =
    let r = deeper_sound 1 11 (reg n) (lit≤ tt) (reg_sound n t) in
    bin_sound 13 op.Or (bin op.And (reg n) (num 0xffff0000)) (bin op.Or (bin op.Shl (bin op.And e (num 0xff)) (num 8)) (bin op.And (reg n) (num 0xff))) refl
    (deeper_sound 12 13 _ (lit≤ tt) (and_mask_sound 11 (reg n) 0xffff0000 (lit≤ tt) (lit< tt) r))
    (bin_sound 12 op.Or (bin op.Shl (bin op.And e (num 0xff)) (num 8)) (bin op.And (reg n) (num 0xff)) refl
    (shift_sound 11 op.Shl (bin op.And e (num 0xff)) 8 (lit≤ tt) refl (and_mask_sound 10 e 0xff (lit≤ tt) (lit< tt) h))
    (and_mask_sound 11 (reg n) 0xff (lit≤ tt) (lit< tt) r))

byte_steady : (c : Bool) (n : ℕ) (e : CExpr) (rest : List Stmt) (a b : ℕ) → is_register n ≡ true → IsSound 10 e → AreSteady a b rest
    → AreSteady a b ((if c then stmt.Set (name.Reg n) (with_low_word 0xffffff00 0xff n e) else stmt.Set (name.Reg (n - 4)) (with_second_word (n - 4) e)) ∷ rest)
byte_steady true n e rest a b t h r = set_steady (name.Reg n) 12 (with_low_word 0xffffff00 0xff n e) rest a b (target_reg n t) (lit≤ tt) (kept_low_sound 0xffffff00 0xff n e (lit< tt) (lit< tt) t h) r
byte_steady false n e rest a b t h r =
    let u = high_register n t in
    set_steady (name.Reg (n - 4)) 14 (with_second_word (n - 4) e) rest a b (target_reg (n - 4) u) (lit≤ tt) (second_sound (n - 4) e u h) r

part_steady : (size : Size) (n : ℕ) (e : CExpr) (rest : List Stmt) (a b : ℕ) → is_register n ≡ true → IsSound 10 e → AreSteady a b rest → AreSteady a b (set_part size n e ∷ rest)
part_steady B n e rest a b t h r = byte_steady (nat_lt n 4) n e rest a b t h r
part_steady H n e rest a b t h r = set_steady (name.Reg n) 12 (with_low_word 0xffff0000 0xffff n e) rest a b (target_reg n t) (lit≤ tt) (kept_low_sound 0xffff0000 0xffff n e (lit< tt) (lit< tt) t h) r
part_steady W n e rest a b t h r = set_steady (name.Reg n) 10 e rest a b (target_reg n t) (lit≤ tt) h r

none_more : (a b : ℕ) (ss : List Stmt) → AreSteady a b ss → AreSteady (0 + a) b ss
none_more a b ss r = let i : stores_of_stmts ss ≡ a = r.stores in record { rule = r.rule; moves = r.moves; stores = omega arith; calls = r.calls }

-- an operand is written; memory by a store
pub writes_steady : (size : Size) (p : Operand) (e : CExpr) (rest : List Stmt) (a b : ℕ) → is_formed_operand p ≡ true → IsSound 10 e → AreSteady a b rest
    → AreSteady (once (is_memory p) + a) b (writes size p e ++ rest)
writes_steady size (o.Reg n) e rest a b t h r = none_more a b _ (part_steady size n e rest a b t h r)
writes_steady size (o.Imm k) e rest a b t h r = none_more a b rest r
writes_steady size (o.Mem m) e rest a b t h r = store_steady (width_of size) 5 10 (address_word m) e rest a b (lit≤ tt) (lit≤ tt) (address_sound m t) h r

writes_end : (size : Size) (p : Operand) (e : CExpr) → writes size p e ++ [] ≡ writes size p e
writes_end size (o.Reg n) e = refl
writes_end size (o.Imm k) e = refl
writes_end size (o.Mem m) e = refl

no_more : (a b : ℕ) (ss : List Stmt) → AreSteady (a + 0) b ss → AreSteady a b ss
no_more a b ss r = let i : stores_of_stmts ss ≡ a + 0 = r.stores in record { rule = r.rule; moves = r.moves; stores = omega arith; calls = r.calls }

-- and nothing else
pub write_steady : (size : Size) (p : Operand) (e : CExpr) → is_formed_operand p ≡ true → IsSound 10 e → AreSteady (once (is_memory p)) 0 (writes size p e)
write_steady size p e t h = no_more (once (is_memory p)) 0 _ (subst (λ ss. AreSteady (once (is_memory p) + 0) 0 ss) (writes_end size p e) (writes_steady size p e [] 0 0 t h none_steady))

-- a word is pushed
pub pushes_steady : (d : ℕ) (e : CExpr) (rest : List Stmt) (a b : ℕ) → d ≤ 64 → IsSound d e → AreSteady a b rest → AreSteady (1 + a) b (pushes e ++ rest)
pushes_steady d e rest a b l h r =
    set_steady (name.Reg 4) 2 (bin op.Sub (reg 4) (num 4)) (stmt.Store (width_of W) (reg 4) e ∷ rest) (1 + a) b refl (lit≤ tt)
    (bin_sound 1 op.Sub (reg 4) (num 4) refl (reg_sound 4 refl) (num_sound 4 (lit< tt)))
    (store_steady (width_of W) 1 d (reg 4) e rest a b (lit≤ tt) l (reg_sound 4 refl) h r)

-- ---- ends

-- where an end leads there are so many nodes
abbrev pub LeadsBelow : ℕ → Arrive → Type 0
LeadsBelow nodes (To n w) = n < nodes
LeadsBelow nodes (End o) = Unit {0}
LeadsBelow nodes Nowhere = ⊥

pub branch_below : (nodes a b : ℕ) (t : Option Bool) (w : World) → IsSome t → a < nodes → b < nodes → LeadsBelow nodes (branch t a b w)
branch_below nodes a b None w h k l = absurd cc
branch_below nodes a b (Some true) w h k l = k
branch_below nodes a b (Some false) w h k l = l

left_below : (nodes : ℕ) (d : Doing) → IsDone d → LeadsBelow nodes (left_by d)
left_below nodes (Next w) h = tt
left_below nodes (Halt e) h = tt
left_below nodes Jam h = h

pub leave_below : (nodes d : ℕ) (e : CExpr) (w : World) → IsSound d e → LeadsBelow nodes (end_leads (end.Leave e) w)
leave_below nodes d e w h = left_below nodes (does_ext e w) (having_done (word_of e w.names) (λ x. calling x w) (h.gives w.names) (λ x. answered_done w.left _ w))

arrive_below : (nodes : ℕ) (d : Doing) (k : World → Arrive) → IsDone d → ((w : World) → LeadsBelow nodes (k w)) → LeadsBelow nodes (arrive d k)
arrive_below nodes (Next w) k h g = g w
arrive_below nodes (Halt e) k h g = tt
arrive_below nodes Jam k h g = h

stays_by : (nodes : ℕ) (r : Arrive) → LeadsBelow nodes r → ArriveStays r → Stays nodes r
stays_by nodes (To n w) h k = (h, k)
stays_by nodes (End o) h k = tt
stays_by nodes Nowhere h k = h

-- ---- blocks

pub block_rule : (b : Block) (s c : ℕ) → AreSteady s c b.stmts → IsTrue (is_flow_end b.end) → IsTrue (is_flow_block b)
block_rule b s c r t = both_hold (are_flow_stmts b.stmts) (is_flow_end b.end) r.rule t

-- a block of such statements leads to a world below, or ends
pub block_steady : (nodes : ℕ) (b : Block) (s c : ℕ) → AreSteady s c b.stmts → IsTrue (is_flow_end b.end) → ((w : World) → LeadsBelow nodes (end_leads b.end w))
    → (w : World) → IsWorld w → Stays nodes (block_leads b w)
block_steady nodes b s c r t g w h =
    stays_by nodes (block_leads b w) (arrive_below nodes (stmts_do b.stmts w) (end_leads b.end) (r.moves w) g) (block_stays b w (block_rule b s c r t) h)
