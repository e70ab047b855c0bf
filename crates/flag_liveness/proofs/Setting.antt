-- Names, and the words after one is set.
use Rattle.std.proofs.Common.{◌≡◌, ℕ, Bool, true, false, cond, nat_eq, nat_lt, ◌&&◌, refl, sym, ap, ◌∙◌, rules, arith, Some}
use Rattle.std.proofs.lemmas.Bool.{false≢true}
use Rattle.dream_words.specs.declared.machine.Name.{Name}
use Rattle.dream_words.specs.declared.machine.Name.TheVariants as n
use Rattle.run_parts.specs.World.{Names, with_name}
use Rattle.c_syntax.specs.declared.syntax.CExpr.{CExpr, CExpr-F}
use Rattle.c_syntax.specs.declared.syntax.CExpr.TheVariants as word
use Rattle.c_syntax.specs.Value.{word_of}
use Rattle.c_syntax.proofs.Layers.{word_of_layer}
use Rattle.flow_passes.specs.Uses.{same_name}
use Rattle.flag_liveness.specs.Before.{is_itself}

same_number : (a b : ℕ) → nat_eq a b ≡ true → a ≡ b
same_number a b h = search (rules, arith, h)

-- names that are the same are equal
pub same_is : (m k : Name) → same_name m k ≡ true → m ≡ k
same_is (n.Reg a) (n.Reg b) h = ap n.Reg (same_number a b h)
same_is (n.Flag a) (n.Flag b) h = ap n.Flag (same_number a b h)
same_is n.Fs n.Fs h = refl
same_is n.Gs n.Gs h = refl
same_is (n.T a) (n.T b) h = ap n.T (same_number a b h)
same_is (n.B a) (n.B b) h = ap n.B (same_number a b h)
same_is (n.S a) (n.S b) h = ap n.S (same_number a b h)
same_is m k h = absurd (false≢true h)

passed_if : (k j x y i : ℕ) → nat_eq k j ≡ false → cond (nat_eq j k && nat_lt k i) x y ≡ y
passed_if k j x y i h = search (rules, arith, h)

passed : (k j x y : ℕ) → nat_eq k j ≡ false → cond (nat_eq j k) x y ≡ y
passed k j x y h = search (rules, arith, h)

-- another name keeps its word
pub set_other : (v : Names) (m k : Name) (x : ℕ) → same_name m k ≡ false → with_name v m x k ≡ v k
set_other v (n.Reg k) (n.Reg j) x h = passed_if k j x (v (n.Reg j)) 8 h
set_other v (n.Flag k) (n.Flag j) x h = passed_if k j x (v (n.Flag j)) 5 h
set_other v n.Fs n.Fs x h = absurd (false≢true (sym h))
set_other v n.Gs n.Gs x h = absurd (false≢true (sym h))
set_other v (n.T k) (n.T j) x h = passed k j x (v (n.T j)) h
set_other v (n.B k) (n.B j) x h = passed k j x (v (n.B j)) h
set_other v (n.S k) (n.S j) x h = passed k j x (v (n.S j)) h
set_other v m k x h = refl

itself_by : (g : ℕ → ℕ) (k j : ℕ) (b c : Bool) → nat_eq j k ≡ b → cond (b && c) (g k) (g j) ≡ g j
itself_by g k j true true e = ap g (sym (same_number j k e))
itself_by g k j true false e = refl
itself_by g k j false c e = refl

itself_one : (g : ℕ → ℕ) (k j : ℕ) (b : Bool) → nat_eq j k ≡ b → cond b (g k) (g j) ≡ g j
itself_one g k j true e = ap g (sym (same_number j k e))
itself_one g k j false e = refl

-- a name that is set to its own word
pub set_itself : (v : Names) (m k : Name) → with_name v m (v m) k ≡ v k
set_itself v (n.Reg k) (n.Reg j) = itself_by (λ i. v (n.Reg i)) k j (nat_eq j k) (nat_lt k 8) refl
set_itself v (n.Flag k) (n.Flag j) = itself_by (λ i. v (n.Flag i)) k j (nat_eq j k) (nat_lt k 5) refl
set_itself v n.Fs n.Fs = refl
set_itself v n.Gs n.Gs = refl
set_itself v (n.T k) (n.T j) = itself_one (λ i. v (n.T i)) k j (nat_eq j k) refl
set_itself v (n.B k) (n.B j) = itself_one (λ i. v (n.B i)) k j (nat_eq j k) refl
set_itself v (n.S k) (n.S j) = itself_one (λ i. v (n.S i)) k j (nat_eq j k) refl
set_itself v m k = refl

-- the value of a Word that is just a name
pub itself_value : (m : Name) (e : CExpr) (v : Names) → is_itself m e ≡ true → word_of e v ≡ Some (v m)
itself_value m (word.Name k) v h = ap (λ g. g v) (ap word_of (sym (word.rolls-Name k)) ∙ word_of_layer (CExpr-F.Name k)) ∙ ap (λ j. Some (v j)) (sym (same_is m k h))
itself_value m e v h = absurd (false≢true h)
