-- Tests at all registers, and at all r/m operands that bytes can give.
use Rattle.std.proofs.Common.{◌≡◌, ℕ, zero, suc, ◌/◌, ◌%◌, ◌<◌, Bool, true, false, List, [], ◌∷◌, Option, Some, None, refl, sym, subst, arith, inl, inr}
use Rattle.std.specs.Prelude.{◌&&◌, ◌==◌, MatchBool, if◌then◌else◌, slice_get}
use Rattle.std.specs.List.{list_all}
use Rattle.std.proofs.lemmas.Bool.{cases_lt}
use Rattle.x86_inst.specs.declared.Seg.{Seg}
use Rattle.x86_inst.specs.declared.Seg.TheVariants as seg
use Rattle.x86_inst.specs.declared.Operand.{Operand}
use Rattle.x86_inst.specs.declared.Operand.TheVariants as operand
use Rattle.x86_inst.specs.Spelling.{base_of, index_of, scale_of, displacement, mem, IsSib, IsDisplaced, IsRegister, IsRm}

-- both are true where their conjunction is
and_true : (a b : Bool) → (a && b) ≡ true → (a ≡ true) × (b ≡ true)
and_true true b e = (refl, e)
and_true false b e = absurd cc

-- ---- numbers

-- at each number below n
abbrev pub at_all_below : ℕ → (ℕ → Bool) → Bool
at_all_below zero p = true
at_all_below (suc n) p = p n && at_all_below n p

-- what holds at each number below n holds at m
pub below : (p : ℕ → Bool) (n m : ℕ) → m < n → at_all_below n p ≡ true → p m ≡ true
below p zero m lt e = absurd (omega arith)
below p (suc n) m lt e =
    let u = and_true (p n) (at_all_below n p) e in
    elim (cases_lt m n) [ inl less ↦ below p n m less u.1 | inr le ↦ let k : n ≡ m = omega arith in subst (λ j. p j ≡ true) k u.0 ]

-- ---- operands

-- at no register, and at each
abbrev pub at_all_or_none : (Option ℕ → Bool) → Bool
at_all_or_none p = p None && at_all_below 8 (λ n. p (Some n))

-- at each register, and at the memory of each base and index
abbrev pub at_all_operands : (scale disp : ℕ) → Seg → (Operand → Bool) → Bool
at_all_operands scale disp seg p =
    at_all_below 8 (λ n. p (operand.Reg n)) &&
    at_all_or_none (λ base. at_all_or_none (λ index. p (operand.Mem (record { base = base; index = index; scale = scale; disp = disp; seg = seg }))))

-- a base is none or a register
at_base : (p : Option ℕ → Bool) (md n : ℕ) → n < 8 → at_all_or_none p ≡ true → p (base_of md n) ≡ true
at_base p md n lt e = at (md == 0 && n == 5)
  where
    at : (b : Bool) → p (if b then None else Some n) ≡ true
    at true = (and_true (p None) _ e).0
    at false = below (λ k. p (Some k)) 8 n lt (and_true (p None) _ e).1

-- an index is none or a register
at_index : (p : Option ℕ → Bool) (n : ℕ) → n < 8 → at_all_or_none p ≡ true → p (index_of n) ≡ true
at_index p n lt e = at (n == 4)
  where
    at : (b : Bool) → p (if b then None else Some n) ≡ true
    at true = (and_true (p None) _ e).0
    at false = below (λ k. p (Some k)) 8 n lt (and_true (p None) _ e).1

-- what holds at each r/m operand holds at the one that the bytes give
module _ (p : Operand → Bool) (holds : (scale disp : ℕ) (seg : Seg) → at_all_operands scale disp seg p ≡ true) where
  at_register : (n : ℕ) → n < 8 → p (operand.Reg n) ≡ true
  at_register n lt = below (λ k. p (operand.Reg k)) 8 n lt (and_true (at_all_below 8 (λ k. p (operand.Reg k))) _ (holds 0 0 seg.None)).0

  abbrev memory : (scale disp : ℕ) → Seg → (base index : Option ℕ) → Bool
  memory scale disp seg base index = p (operand.Mem (record { base = base; index = index; scale = scale; disp = disp; seg = seg }))

  at_memory : (scale disp : ℕ) (seg : Seg) (md base : ℕ) → base < 8 → at_all_or_none (memory scale disp seg (base_of md base)) ≡ true
  at_memory scale disp seg md base lt =
      at_base (λ b. at_all_or_none (memory scale disp seg b)) md base lt
      (and_true (at_all_below 8 (λ k. p (operand.Reg k))) (at_all_or_none (λ b. at_all_or_none (memory scale disp seg b))) (holds scale disp seg)).1

  at_sib : (seg : Seg) (md : ℕ) (s : List ℕ) (o : Operand) → IsSib seg md s o → p o ≡ true
  at_sib seg md [] o h = absurd h
  at_sib seg md (sib ∷ disp) o h =
      let scale = scale_of (sib / 64) (sib / 8 % 8) in
      let b = at_memory scale (displacement disp) seg md (sib % 8) (omega arith) in
      let e : p (mem seg md (sib % 8) (index_of (sib / 8 % 8)) scale disp) ≡ true = at_index (memory scale (displacement disp) seg (base_of md (sib % 8))) (sib / 8 % 8) (omega arith) b in
      subst (λ x. p x ≡ true) (sym h.1) e

  at_displaced : (seg : Seg) (md rm : ℕ) → rm < 8 → (s : List ℕ) (o : Operand) → IsDisplaced seg md rm s o → p o ≡ true
  at_displaced seg md rm lt s o h =
      let e : p (mem seg md rm None 1 s) ≡ true = (and_true (memory 1 (displacement s) seg (base_of md rm) None) _ (at_memory 1 (displacement s) seg md rm lt)).0 in
      subst (λ x. p x ≡ true) (sym h.1) e

  pub at_rm : (seg : Seg) (md rm : ℕ) → rm < 8 → (s : List ℕ) (o : Operand) → IsRm seg md rm s o → p o ≡ true
  at_rm seg md rm lt s o h = at (md == 3) (rm == 4) h
    where
      at : (b c : Bool) → MatchBool b (IsRegister rm s o) (MatchBool c (IsSib seg md s o) (IsDisplaced seg md rm s o)) → p o ≡ true
      at true c h = subst (λ x. p x ≡ true) (sym h.1) (at_register rm lt)
      at false true h = at_sib seg md s o h
      at false false h = at_displaced seg md rm lt s o h

-- ---- lists

-- what holds of all items holds of the one at a place
pub all_get : {A : Type 0} (p : A → Bool) (xs : List A) (j : ℕ) (x : A) → list_all p xs ≡ true → slice_get xs j ≡ Some x → p x ≡ true
all_get p [] j x e g = absurd cc
all_get p (y ∷ ys) zero x e g = let k : y ≡ x = cc in subst (λ z. p z ≡ true) k (and_true (p y) (list_all p ys) e).0
all_get p (y ∷ ys) (suc j) x e g = all_get p ys j x (and_true (p y) (list_all p ys) e).1 g
