-- Names that are one, and names after one was set.
use Rattle.std.proofs.Common.{◌≡◌, ℕ, Bool, true, false, cond, not, nat_eq, nat_lt, ◌&&◌, ◌||◌, ◌⊎◌, inl, inr, refl, ap, ◌∙◌, arith, rules}
use Rattle.std.specs.Prelude.{IsTrue}
use Rattle.dream_words.specs.declared.machine.Name.{Name}
use Rattle.dream_words.specs.declared.machine.Name.TheVariants as n
use Rattle.run_parts.specs.World.{Names, with_name}
use Rattle.micro_ir.specs.Rule.{is_flow_target}
use Rattle.flow_passes.specs.Uses.{same_name}

-- numbers that are equal by their test
pub number_same : (a b : ℕ) → nat_eq a b ≡ true → a ≡ b
number_same a b e = search (rules, arith, e)

number_turned : (a b : ℕ) → nat_eq a b ≡ nat_eq b a
number_turned a b = search (rules, arith)

-- names that are one are equal
pub same_true : (m k : Name) → same_name m k ≡ true → m ≡ k
same_true (n.Reg a) (n.Reg b) e = ap (λ x. n.Reg x) (number_same a b e)
same_true (n.Flag a) (n.Flag b) e = ap (λ x. n.Flag x) (number_same a b e)
same_true n.Fs n.Fs e = refl
same_true n.Gs n.Gs e = refl
same_true (n.T a) (n.T b) e = ap (λ x. n.T x) (number_same a b e)
same_true (n.B a) (n.B b) e = ap (λ x. n.B x) (number_same a b e)
same_true (n.S a) (n.S b) e = ap (λ x. n.S x) (number_same a b e)
same_true m k e = absurd (let z : ⊥ = cc in z)

-- in either order
pub same_turned : (m k : Name) → same_name m k ≡ same_name k m
same_turned (n.Reg a) (n.Reg b) = number_turned a b
same_turned (n.Flag a) (n.Flag b) = number_turned a b
same_turned n.Fs n.Fs = refl
same_turned n.Gs n.Gs = refl
same_turned (n.T a) (n.T b) = number_turned a b
same_turned (n.B a) (n.B b) = number_turned a b
same_turned (n.S a) (n.S b) = number_turned a b
same_turned m k = refl

chosen : (k j x y i : ℕ) → nat_eq k j ≡ true → IsTrue (nat_lt k i && true) → cond (nat_eq j k && nat_lt k i) x y ≡ x
chosen k j x y i s t = search (rules, arith, s, t)

taken : (k j x y : ℕ) → nat_eq k j ≡ true → cond (nat_eq j k) x y ≡ x
taken k j x y s = search (rules, arith, s)

passed : (k j x y i : ℕ) → nat_eq k j ≡ false → cond (nat_eq j k && nat_lt k i) x y ≡ y
passed k j x y i s = search (rules, arith, s)

left : (k j x y : ℕ) → nat_eq k j ≡ false → cond (nat_eq j k) x y ≡ y
left k j x y s = search (rules, arith, s)

-- a name that was set stands for the word
pub set_here : (v : Names) (m : Name) (x : ℕ) (k : Name) → IsTrue (is_flow_target m) → same_name m k ≡ true → with_name v m x k ≡ x
set_here v (n.Reg k) x (n.Reg j) t s = chosen k j x (v (n.Reg j)) 8 s t
set_here v (n.Flag k) x (n.Flag j) t s = chosen k j x (v (n.Flag j)) 5 s t
set_here v n.Fs x n.Fs t s = refl
set_here v n.Gs x n.Gs t s = refl
set_here v (n.T k) x (n.T j) t s = taken k j x (v (n.T j)) s
set_here v (n.B k) x (n.B j) t s = taken k j x (v (n.B j)) s
set_here v (n.S k) x (n.S j) t s = taken k j x (v (n.S j)) s
set_here v m x k t s = absurd (let z : ⊥ = cc in z)

-- and the others for what they stood for
pub set_there : (v : Names) (m : Name) (x : ℕ) (k : Name) → same_name m k ≡ false → with_name v m x k ≡ v k
set_there v (n.Reg k) x (n.Reg j) s = passed k j x (v (n.Reg j)) 8 s
set_there v (n.Flag k) x (n.Flag j) s = passed k j x (v (n.Flag j)) 5 s
set_there v n.Fs x n.Fs s = absurd (let z : ⊥ = cc in z)
set_there v n.Gs x n.Gs s = absurd (let z : ⊥ = cc in z)
set_there v (n.T k) x (n.T j) s = left k j x (v (n.T j)) s
set_there v (n.B k) x (n.B j) s = left k j x (v (n.B j)) s
set_there v (n.S k) x (n.S j) s = left k j x (v (n.S j)) s
set_there v m x k s = refl

-- ---- tests

-- a test is true or false
pub true_or_false : (b : Bool) → (b ≡ true) ⊎ (b ≡ false)
true_or_false true = inl refl
true_or_false false = inr refl

pub or_false : (a b : Bool) → a ≡ false → b ≡ false → (a || b) ≡ false
or_false a b e f = ap (λ z. z || b) e ∙ f

pub first_false : (a b : Bool) → (a || b) ≡ false → a ≡ false
first_false true b e = absurd (let z : ⊥ = cc in z)
first_false false b e = refl

pub second_false : (a b : Bool) → (a || b) ≡ false → b ≡ false
second_false true b e = absurd (let z : ⊥ = cc in z)
second_false false b e = e

pub and_true : (a b : Bool) → IsTrue a → IsTrue b → IsTrue (a && b)
and_true a b e f = ap (λ z. z && b) e ∙ f

pub not_true : (a : Bool) → IsTrue (not a) → a ≡ false
not_true true e = absurd (let z : ⊥ = cc in z)
not_true false e = refl

pub not_both : (a : Bool) → a ≡ true → a ≡ false → ⊥
not_both a e f = cc
