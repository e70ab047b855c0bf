-- The words and statements of operands keep the rule of flows, and are safe; how many of them store.
use Rattle.std.proofs.Common.{◌≡◌, ℕ, ◌+◌, ◌-◌, ◌^◌, ◌%◌, ◌<◌, ◌≤◌, max, nat_lt, nat_le, Bool, true, false, if◌then◌else◌, ◌&&◌, List, [], ◌∷◌, ◌++◌, Option, Some, None, refl, ap, sym, subst, ◌∙◌, lit≤, lit<, arith}
use Rattle.std.specs.Prelude.{IsTrue}
use Rattle.std.proofs.lemmas.Bool.{false≢true, ltb-true}
use Rattle.std.proofs.lemmas.Bool.Decides.{nat_tests}
use Rattle.std.proofs.lemmas.Nat.{mod_below, pow_pos}
use Rattle.dream_words.specs.declared.machine.Name.{Name}
use Rattle.dream_words.specs.declared.machine.Name.TheVariants as name
use Rattle.dream_words.specs.Words.{low_part}
use Rattle.c_syntax.specs.declared.syntax.CBin.{CBin}
use Rattle.c_syntax.specs.declared.syntax.CBin.TheVariants as op
use Rattle.c_syntax.specs.declared.syntax.CExpr as e
use Rattle.c_syntax.specs.declared.syntax.CExpr.{CExpr, CExpr-F, roll-CExpr}
use Rattle.c_syntax.specs.declared.syntax.CCond.{CCond}
use Rattle.c_syntax.specs.Depth.{word_depth}
use Rattle.c_syntax.specs.Formed.{cond_names}
use Rattle.c_words.specs.Built.{num, name as named, bin}
use Rattle.c_words.proofs.Layers.{word_depth_layer}
use Rattle.micro_ir.specs.declared.flow.Stmt.{Stmt}
use Rattle.micro_ir.specs.Rule.{is_flow_name, word_names, has_flow_names, cond_has_flow_names, is_flow_word, is_flow_stmt, are_flow_stmts}
use Rattle.micro_ir.specs.Counts.{stores_of_stmt, stores_of_stmts, calls_of_stmt, calls_of_stmts}
use Rattle.x86_inst.specs.declared.Size.{Size}
use Rattle.x86_inst.specs.declared.Size.TheVariants as size
use Rattle.x86_inst.specs.declared.Seg.{Seg}
use Rattle.x86_inst.specs.declared.Seg.TheVariants as seg
use Rattle.x86_inst.specs.declared.Mem.{Mem}
use Rattle.x86_inst.specs.declared.Operand.{Operand}
use Rattle.x86_inst.specs.declared.Operand.TheVariants as o
use Rattle.x86_formed.specs.Formed.{is_register_or_none, is_formed_mem, is_formed_operand}
use Rattle.x86_model.specs.Operands.{bits_of}
use Rattle.lift_parts.specs.Parts.{number, reg, temp, part_word, with_index, with_base, with_segment, address_word, raw_word, value_word, reads, pair_reads}
use Rattle.lift_parts.specs.Safe.{Sure, sure_at, sure_of, is_safe_cond, is_safe, is_safe_stmt, are_safe_stmts}
use Rattle.lift_parts.proofs.Sureness.{both_true, sure_layer}

-- ---- words

-- a Word at most so deep, with numbers and names of a flow, in which no shift can be stuck
pub record IsFit (depth : ℕ) (e : CExpr) : Type 0 where
  pub deep : word_depth e ≤ depth
  pub names : IsTrue (has_flow_names e)
  pub safe : IsTrue (is_safe e)

pub names_layer : (y : CExpr-F CCond CExpr) → has_flow_names (roll-CExpr y) ≡ word_names (e.map-CExpr CCond CExpr Bool Bool cond_has_flow_names has_flow_names y)
names_layer y = e.fold-roll-CExpr Bool Bool cond_names word_names y

-- a Word is safe where its layer says so
pub safe_by : (y : CExpr-F CCond CExpr) → IsTrue (sure_at (e.map-CExpr CCond CExpr Bool Sure is_safe_cond sure_of y)).safe → IsTrue (is_safe (roll-CExpr y))
safe_by y t = subst IsTrue (sym (ap (λ s. s.safe) (sure_layer y))) t

pub both_hold : (p q : Bool) → IsTrue p → IsTrue q → IsTrue (p && q)
both_hold true q h k = k
both_hold false q h k = h

-- where it is at most 64 deep, it is a Word of a flow
pub fit_word : (depth : ℕ) (e : CExpr) → depth ≤ 64 → IsFit depth e → IsTrue (is_flow_word e)
fit_word depth e h k =
    let d : word_depth e ≤ depth = k.deep in
    let t : nat_le (word_depth e) 64 ≡ true = grind (arith, nat_tests) in
    both_hold (has_flow_names e) (nat_le (word_depth e) 64) k.names t

pub deeper : (d k : ℕ) (e : CExpr) → d ≤ k → IsFit d e → IsFit k e
deeper d k e h p = let q : word_depth e ≤ d = p.deep in record { deep = omega arith; names = p.names; safe = p.safe }

pub below_test : (n k : ℕ) → n < k → nat_lt n k ≡ true
below_test n k h = grind (arith, nat_tests)

pub under : (a b d : ℕ) → a ≤ d → b ≤ d → max a b + 1 ≤ d + 1
under a b d h k = omega arith

pub num_fit : (d n : ℕ) → 1 ≤ d → n < 2 ^ 32 → IsFit d (num n)
num_fit d n h k = record { deep = simp word_depth_layer h; names = simp names_layer (below_test n (2 ^ 32) k); safe = safe_by (CExpr-F.Num n) refl }

pub name_fit : (d : ℕ) (n : Name) → 1 ≤ d → IsTrue (is_flow_name n) → IsFit d (named n)
name_fit d n h k = record { deep = simp word_depth_layer h; names = simp names_layer k; safe = safe_by (CExpr-F.Name n) refl }

-- operators that are never stuck
abbrev pub is_total : CBin → Bool
is_total op.Add = true
is_total op.Sub = true
is_total op.Mul = true
is_total op.And = true
is_total op.Or = true
is_total op.Xor = true
is_total op.Shl = false
is_total op.Shr = false

bin_safe : (f : CBin) (a b : CExpr) → IsTrue (is_total f) → IsTrue (is_safe a) → IsTrue (is_safe b) → IsTrue (is_safe (bin f a b))
bin_safe op.Add a b t h k = safe_by (CExpr-F.Bin op.Add a b) (both_hold (is_safe a) (is_safe b) h k)
bin_safe op.Sub a b t h k = safe_by (CExpr-F.Bin op.Sub a b) (both_hold (is_safe a) (is_safe b) h k)
bin_safe op.Mul a b t h k = safe_by (CExpr-F.Bin op.Mul a b) (both_hold (is_safe a) (is_safe b) h k)
bin_safe op.And a b t h k = safe_by (CExpr-F.Bin op.And a b) (both_hold (is_safe a) (is_safe b) h k)
bin_safe op.Or a b t h k = safe_by (CExpr-F.Bin op.Or a b) (both_hold (is_safe a) (is_safe b) h k)
bin_safe op.Xor a b t h k = safe_by (CExpr-F.Bin op.Xor a b) (both_hold (is_safe a) (is_safe b) h k)
bin_safe op.Shl a b t h k = absurd (false≢true t)
bin_safe op.Shr a b t h k = absurd (false≢true t)

pub bin_deep : (d : ℕ) (f : CBin) (a b : CExpr) → word_depth a ≤ d → word_depth b ≤ d → word_depth (bin f a b) ≤ d + 1
bin_deep d f a b h k = simp word_depth_layer (under (word_depth a) (word_depth b) d h k)

pub bin_names : (f : CBin) (a b : CExpr) → IsTrue (has_flow_names a) → IsTrue (has_flow_names b) → IsTrue (has_flow_names (bin f a b))
bin_names f a b h k = simp names_layer (both_hold (has_flow_names a) (has_flow_names b) h k)

pub bin_fit : (d : ℕ) (f : CBin) (a b : CExpr) → IsTrue (is_total f) → IsFit d a → IsFit d b → IsFit (d + 1) (bin f a b)
bin_fit d f a b t h k = record { deep = bin_deep d f a b h.deep k.deep; names = bin_names f a b h.names k.names; safe = bin_safe f a b t h.safe k.safe }

-- a shift by a number
shift_safe : (a : CExpr) (n : ℕ) → n < 32 → IsTrue (is_safe a) → IsTrue (is_safe (bin op.Shl a (num n))) × IsTrue (is_safe (bin op.Shr a (num n)))
shift_safe a n l h = (safe_by (CExpr-F.Bin op.Shl a (num n)) (counted (sure_of (num n)) (sure_layer (CExpr-F.Num n))), safe_by (CExpr-F.Bin op.Shr a (num n)) (counted (sure_of (num n)) (sure_layer (CExpr-F.Num n))))
  where
    counted : (s : Sure) → s ≡ record { safe = true; small = nat_lt n 32 } → IsTrue (is_safe a && (s.safe && s.small))
    counted s e = subst (λ s. IsTrue (is_safe a && (s.safe && s.small))) (sym e) (both_hold (is_safe a) (nat_lt n 32) h (below_test n 32 l))

pub shl_fit : (d : ℕ) (a : CExpr) (n : ℕ) → 1 ≤ d → n < 32 → IsFit d a → IsFit (d + 1) (bin op.Shl a (num n))
shl_fit d a n l k h =
    let p = num_fit d n l (omega (arith, k)) in
    record { deep = bin_deep d op.Shl a (num n) h.deep p.deep; names = bin_names op.Shl a (num n) h.names p.names; safe = (shift_safe a n k h.safe).0 }

pub shr_fit : (d : ℕ) (a : CExpr) (n : ℕ) → 1 ≤ d → n < 32 → IsFit d a → IsFit (d + 1) (bin op.Shr a (num n))
shr_fit d a n l k h =
    let p = num_fit d n l (omega (arith, k)) in
    record { deep = bin_deep d op.Shr a (num n) h.deep p.deep; names = bin_names op.Shr a (num n) h.names p.names; safe = (shift_safe a n k h.safe).1 }

-- ---- the words of operands

low_below : (bits k : ℕ) → bits ≤ 32 → low_part bits k < 2 ^ bits
low_below bits k h = mod_below k (2 ^ bits) (pow_pos bits)

pub number_fit : (d k : ℕ) → 1 ≤ d → IsFit d (number k)
number_fit d k h = num_fit d (low_part 32 k) h (mod_below k (2 ^ 32) (pow_pos 32))

sized_fit : (size : Size) (k : ℕ) → IsFit 1 (num (low_part (bits_of size) k))
sized_fit size.B k = num_fit 1 _ (lit≤ tt) (let l : k % 2 ^ 8 < 2 ^ 8 = mod_below k (2 ^ 8) (pow_pos 8) in omega arith)
sized_fit size.H k = num_fit 1 _ (lit≤ tt) (let l : k % 2 ^ 16 < 2 ^ 16 = mod_below k (2 ^ 16) (pow_pos 16) in omega arith)
sized_fit size.W k = num_fit 1 _ (lit≤ tt) (mod_below k (2 ^ 32) (pow_pos 32))

pub reg_fit : (d n : ℕ) → 1 ≤ d → n < 8 → IsFit d (reg n)
reg_fit d n h k = name_fit d (name.Reg n) h (below_test n 8 k)

pub temp_fit : (d n : ℕ) → 1 ≤ d → n < 2 ^ 31 → IsFit d (temp n)
temp_fit d n h k = name_fit d (name.T n) h (below_test n (2 ^ 31) k)

pub masked_fit : (d : ℕ) (a : CExpr) (n : ℕ) → 1 ≤ d → n < 2 ^ 32 → IsFit d a → IsFit (d + 1) (bin op.And a (num n))
masked_fit d a n l k h = bin_fit d op.And a (num n) refl h (num_fit d n l k)

chosen_fit : (d : ℕ) (b : Bool) (a c : CExpr) → IsFit d a → IsFit d c → IsFit d (if b then a else c)
chosen_fit d true a c h k = h
chosen_fit d false a c h k = k

pub less_four : (n : ℕ) → n < 8 → n - 4 < 8
less_four n h = omega arith

pub part_fit : (size : Size) (n : ℕ) → n < 8 → IsFit 3 (part_word size n)
part_fit size.B n h =
    chosen_fit 3 (nat_lt n 4) _ _ (masked_fit 2 (reg n) 0xff (lit≤ tt) (lit< tt) (reg_fit 2 n (lit≤ tt) h))
    (masked_fit 2 _ 0xff (lit≤ tt) (lit< tt) (shr_fit 1 (reg (n - 4)) 8 (lit≤ tt) (lit< tt) (reg_fit 1 (n - 4) (lit≤ tt) (less_four n h))))
part_fit size.H n h = masked_fit 2 (reg n) 0xffff (lit≤ tt) (lit< tt) (reg_fit 2 n (lit≤ tt) h)
part_fit size.W n h = reg_fit 3 n (lit≤ tt) h

index_fit : (i : Option ℕ) (scale disp : ℕ) → IsTrue (is_register_or_none i) → IsFit 3 (with_index i scale disp)
index_fit None scale disp h = number_fit 3 disp (lit≤ tt)
index_fit (Some n) scale disp h = bin_fit 2 op.Add _ _ refl (bin_fit 1 op.Mul _ _ refl (reg_fit 1 n (lit≤ tt) (ltb-true n 8 h)) (number_fit 1 scale (lit≤ tt))) (number_fit 2 disp (lit≤ tt))

base_fit : (b : Option ℕ) (a : CExpr) → IsTrue (is_register_or_none b) → IsFit 3 a → IsFit 4 (with_base b a)
base_fit None a h k = deeper 3 4 a (lit≤ tt) k
base_fit (Some n) a h k = bin_fit 3 op.Add _ _ refl (reg_fit 3 n (lit≤ tt) (ltb-true n 8 h)) k

segment_fit : (s : Seg) (a : CExpr) → IsFit 4 a → IsFit 5 (with_segment s a)
segment_fit seg.None a h = deeper 4 5 a (lit≤ tt) h
segment_fit seg.Fs a h = bin_fit 4 op.Add _ _ refl h (name_fit 4 name.Fs (lit≤ tt) refl)
segment_fit seg.Gs a h = bin_fit 4 op.Add _ _ refl h (name_fit 4 name.Gs (lit≤ tt) refl)

pub address_fit : (m : Mem) → IsTrue (is_formed_mem m) → IsFit 5 (address_word m)
address_fit m h =
    let (b, i) = both_true (is_register_or_none m.base) (is_register_or_none m.index) h in
    segment_fit m.seg _ (base_fit m.base _ b (index_fit m.index m.scale m.disp i))

pub raw_fit : (size : Size) (o : Operand) → IsTrue (is_formed_operand o) → IsFit 2 (raw_word size o)
raw_fit size.B (o.Reg n) h =
    let l : n < 8 = ltb-true n 8 h in
    chosen_fit 2 (nat_lt n 4) _ _ (reg_fit 2 n (lit≤ tt) l) (shr_fit 1 (reg (n - 4)) 8 (lit≤ tt) (lit< tt) (reg_fit 1 (n - 4) (lit≤ tt) (less_four n l)))
raw_fit size.H (o.Reg n) h = reg_fit 2 n (lit≤ tt) (ltb-true n 8 h)
raw_fit size.W (o.Reg n) h = reg_fit 2 n (lit≤ tt) (ltb-true n 8 h)
raw_fit size.B (o.Mem m) h = temp_fit 2 0 (lit≤ tt) (lit< tt)
raw_fit size.H (o.Mem m) h = temp_fit 2 0 (lit≤ tt) (lit< tt)
raw_fit size.W (o.Mem m) h = temp_fit 2 0 (lit≤ tt) (lit< tt)
raw_fit size.B (o.Imm k) h = deeper 1 2 _ (lit≤ tt) (sized_fit size.B k)
raw_fit size.H (o.Imm k) h = deeper 1 2 _ (lit≤ tt) (sized_fit size.H k)
raw_fit size.W (o.Imm k) h = deeper 1 2 _ (lit≤ tt) (sized_fit size.W k)

pub value_fit : (size : Size) (o : Operand) → IsTrue (is_formed_operand o) → IsFit 3 (value_word size o)
value_fit size (o.Reg n) h = part_fit size n (ltb-true n 8 h)
value_fit size (o.Mem m) h = temp_fit 3 0 (lit≤ tt) (lit< tt)
value_fit size (o.Imm k) h = deeper 1 3 _ (lit≤ tt) (sized_fit size k)

-- ---- statements

-- Statements keep the rule, are safe, and have so many stores and no call.
pub record AreFit (stores : ℕ) (ss : List Stmt) : Type 0 where
  pub flow : IsTrue (are_flow_stmts ss)
  pub safe : IsTrue (are_safe_stmts ss)
  pub stored : stores_of_stmts ss ≡ stores
  pub called : calls_of_stmts ss ≡ 0

pub none_fit : AreFit 0 []
none_fit = record { flow = refl; safe = refl; stored = refl; called = refl }

-- one statement before others
pub more_fit : (s : Stmt) (ss : List Stmt) (stores n : ℕ) → IsTrue (is_flow_stmt s) → IsTrue (is_safe_stmt s) → stores_of_stmt s ≡ n → calls_of_stmt s ≡ 0 → AreFit stores ss → AreFit (n + stores) (s ∷ ss)
more_fit s ss stores n h k l m r = record {
  flow = both_hold (is_flow_stmt s) (are_flow_stmts ss) h r.flow;
  safe = both_hold (is_safe_stmt s) (are_safe_stmts ss) k r.safe;
  stored = ap (λ a. a + stores_of_stmts ss) l ∙ ap (λ b. n + b) r.stored;
  called = ap (λ a. a + calls_of_stmts ss) m ∙ ap (λ b. 0 + b) r.called;
}

-- statements before others
pub fit_append : (xs ys : List Stmt) (a b : ℕ) → AreFit a xs → AreFit b ys → AreFit (a + b) (xs ++ ys)
fit_append xs ys a b h k = record {
  flow = flow_both xs ys h.flow k.flow;
  safe = safe_both xs ys h.safe k.safe;
  stored = stores_both xs ys ∙ ap (λ n. n + stores_of_stmts ys) h.stored ∙ ap (λ n. a + n) k.stored;
  called = calls_both xs ys ∙ ap (λ n. n + calls_of_stmts ys) h.called ∙ ap (λ n. 0 + n) k.called;
}
  where
    flow_both : (xs ys : List Stmt) → IsTrue (are_flow_stmts xs) → IsTrue (are_flow_stmts ys) → IsTrue (are_flow_stmts (xs ++ ys))
    flow_both [] ys h k = k
    flow_both (x ∷ xs) ys h k = let (p, q) = both_true (is_flow_stmt x) (are_flow_stmts xs) h in both_hold (is_flow_stmt x) (are_flow_stmts (xs ++ ys)) p (flow_both xs ys q k)

    safe_both : (xs ys : List Stmt) → IsTrue (are_safe_stmts xs) → IsTrue (are_safe_stmts ys) → IsTrue (are_safe_stmts (xs ++ ys))
    safe_both [] ys h k = k
    safe_both (x ∷ xs) ys h k = let (p, q) = both_true (is_safe_stmt x) (are_safe_stmts xs) h in both_hold (is_safe_stmt x) (are_safe_stmts (xs ++ ys)) p (safe_both xs ys q k)

    stores_both : (xs ys : List Stmt) → stores_of_stmts (xs ++ ys) ≡ stores_of_stmts xs + stores_of_stmts ys
    stores_both [] ys = omega arith
    stores_both (x ∷ xs) ys = let r : stores_of_stmts (xs ++ ys) ≡ stores_of_stmts xs + stores_of_stmts ys = stores_both xs ys in omega arith

    calls_both : (xs ys : List Stmt) → calls_of_stmts (xs ++ ys) ≡ calls_of_stmts xs + calls_of_stmts ys
    calls_both [] ys = omega arith
    calls_both (x ∷ xs) ys = let r : calls_of_stmts (xs ++ ys) ≡ calls_of_stmts xs + calls_of_stmts ys = calls_both xs ys in omega arith

pub reads_fit : (size : Size) (o : Operand) → IsTrue (is_formed_operand o) → AreFit 0 (reads size o)
reads_fit size (o.Reg n) h = none_fit
reads_fit size (o.Imm k) h = none_fit
reads_fit size (o.Mem m) h = let a = address_fit m h in more_fit _ [] 0 0 (fit_word 5 (address_word m) (lit≤ tt) a) a.safe refl refl none_fit

pub pair_reads_fit : (size : Size) (d s : Operand) → IsTrue (is_formed_operand d) → IsTrue (is_formed_operand s) → AreFit 0 (pair_reads size d s)
pair_reads_fit size (o.Reg n) s h k = reads_fit size s k
pair_reads_fit size (o.Mem m) s h k = reads_fit size (o.Mem m) h
pair_reads_fit size (o.Imm i) s h k = reads_fit size s k
