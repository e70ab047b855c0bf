-- Each condition, by its number, has the truth of the flags.
use Rattle.std.proofs.Common.{◌≡◌, ℕ, zero, suc, ◌%◌, ◌<◌, Bool, true, false, not, ◌&&◌, ◌||◌, nat_eq, arith, refl, ap, sym, ◌∙◌, subst, lit<, Option, Some, None}
use Rattle.std.specs.Prelude.{Result, Ok, Err, IfOk}
use Rattle.std.specs.declared.alloc.AllocError.{AllocError}
use Rattle.std.proofs.lemmas.Nat.{mod_below}
use Rattle.dream_words.specs.Signed.{differ}
use Rattle.dream_words.specs.declared.machine.Flags.{Flags}
use Rattle.dream_words.specs.declared.machine.Bit.{Bit}
use Rattle.dream_words.specs.declared.machine.Bit.TheVariants.{Zero, One, Undefined}
use Rattle.dream_words.specs.declared.machine.Name.TheVariants.{Flag}
use Rattle.x86_model.specs.Effects.{known, both, either, opposite, condition_of}
use Rattle.run_parts.specs.World.{Names}
use Rattle.c_syntax.specs.declared.syntax.CCmp.TheVariants.{Eq, Ne}
use Rattle.c_syntax.specs.declared.syntax.CCond.{CCond}
use Rattle.c_syntax.specs.Value.{truth_of}
use Rattle.c_words.specs.Built.{name, num, and, or}
use Rattle.lift_parts.specs.Stands.{StandsFor, FlagsStand}
use Rattle.lift_alu.specs.Words.{flag_set, flag_clear, signs_differ, signs_agree, row_words, cond_words}
use Rattle.lift_alu.specs.Lifts.{IsKnownAs, HasTruth}
use Rattle.lift_alu.proofs.Values.{num_value, name_value, cmp_value, and_value, or_value, set_value}

-- ---- what is known of flags, by their words

set_known : (b : Bit) (x : ℕ) → StandsFor b x → IsKnownAs (known b) (not (nat_eq x 0))
set_known Zero x h = ap (λ k. not (nat_eq k 0)) h
set_known One x h = ap (λ k. not (nat_eq k 0)) h
set_known Undefined x h = tt

differ_known : (b d : Bit) (x y : ℕ) → StandsFor b x → StandsFor d y → IsKnownAs (both differ (known b) (known d)) (not (nat_eq x y))
differ_known Zero Zero x y h k = ap (λ n. not (nat_eq n y)) h ∙ ap (λ n. not (nat_eq 0 n)) k
differ_known Zero One x y h k = ap (λ n. not (nat_eq n y)) h ∙ ap (λ n. not (nat_eq 0 n)) k
differ_known One Zero x y h k = ap (λ n. not (nat_eq n y)) h ∙ ap (λ n. not (nat_eq 1 n)) k
differ_known One One x y h k = ap (λ n. not (nat_eq n y)) h ∙ ap (λ n. not (nat_eq 1 n)) k
differ_known Undefined d x y h k = tt
differ_known Zero Undefined x y h k = tt
differ_known One Undefined x y h k = tt

either_known : (a b : Option Bool) (p q : Bool) → IsKnownAs a p → IsKnownAs b q → IsKnownAs (both either a b) (p || q)
either_known None b p q h k = tt
either_known (Some a) None p q h k = tt
either_known (Some a) (Some b) p q h k = ap (λ x. x || q) h ∙ ap (λ x. a || x) k

opposite_known : (a : Option Bool) (p q : Bool) → IsKnownAs a p → q ≡ not p → IsKnownAs (opposite a) q
opposite_known None p q h e = tt
opposite_known (Some a) p q h e = e ∙ ap not h

-- a test that isn't the opposite of another
not_twice : (b : Bool) → b ≡ not (not b)
not_twice true = refl
not_twice false = refl

neither : (a b : Bool) → (a && b) ≡ not (not a || not b)
neither true b = not_twice b
neither false b = refl

-- ---- the conditions that are made of one or two tests

-- the truth of a Cond, with what is known of it
abbrev Truth : Names → CCond → Option Bool → Type 0
Truth v t o = (p : Bool) × (truth_of t v ≡ Some p) × IsKnownAs o p

module _ (v : Names) where
  clear_value : (n : ℕ) → truth_of (flag_clear n) v ≡ Some (nat_eq (v (Flag n)) 0)
  clear_value n = cmp_value v Eq (name (Flag n)) (num 0) (v (Flag n)) 0 (name_value v n) (num_value v 0)

  differ_value : truth_of signs_differ v ≡ Some (not (nat_eq (v (Flag 3)) (v (Flag 4))))
  differ_value = cmp_value v Ne (name (Flag 3)) (name (Flag 4)) (v (Flag 3)) (v (Flag 4)) (name_value v 3) (name_value v 4)

  agree_value : truth_of signs_agree v ≡ Some (nat_eq (v (Flag 3)) (v (Flag 4)))
  agree_value = cmp_value v Eq (name (Flag 3)) (name (Flag 4)) (v (Flag 3)) (v (Flag 4)) (name_value v 3) (name_value v 4)

  set_truth : (n : ℕ) (b : Bit) → StandsFor b (v (Flag n)) → Truth v (flag_set n) (known b)
  set_truth n b h = (not (nat_eq (v (Flag n)) 0), set_value v n, set_known b (v (Flag n)) h)

  clear_truth : (n : ℕ) (b : Bit) → StandsFor b (v (Flag n)) → Truth v (flag_clear n) (opposite (known b))
  clear_truth n b h =
      (nat_eq (v (Flag n)) 0, clear_value n, opposite_known (known b) (not (nat_eq (v (Flag n)) 0)) (nat_eq (v (Flag n)) 0) (set_known b (v (Flag n)) h) (not_twice (nat_eq (v (Flag n)) 0)))

  differ_truth : (s o : Bit) → StandsFor s (v (Flag 3)) → StandsFor o (v (Flag 4)) → Truth v signs_differ (both differ (known s) (known o))
  differ_truth s o h k = (not (nat_eq (v (Flag 3)) (v (Flag 4))), differ_value, differ_known s o (v (Flag 3)) (v (Flag 4)) h k)

  agree_truth : (s o : Bit) → StandsFor s (v (Flag 3)) → StandsFor o (v (Flag 4)) → Truth v signs_agree (opposite (both differ (known s) (known o)))
  agree_truth s o h k = (
    nat_eq (v (Flag 3)) (v (Flag 4)),
    agree_value,
    opposite_known (both differ (known s) (known o)) (not (nat_eq (v (Flag 3)) (v (Flag 4)))) (nat_eq (v (Flag 3)) (v (Flag 4))) (differ_known s o (v (Flag 3)) (v (Flag 4)) h k) (not_twice (nat_eq (v (Flag 3)) (v (Flag 4)))),
  )

  -- one of two conditions, and neither
  either_truth : (t u : CCond) (a b : Option Bool) → Truth v t a → Truth v u b → Truth v (or t u) (both either a b)
  either_truth t u a b h k = (h.0 || k.0, or_value v t u h.0 k.0 h.1 k.1, either_known a b h.0 k.0 h.2 k.2)

  neither_truth : (t u : CCond) (a b : Option Bool) (p q : Bool) → truth_of t v ≡ Some p → truth_of u v ≡ Some q → IsKnownAs a (not p) → IsKnownAs b (not q)
      → Truth v (and t u) (opposite (both either a b))
  neither_truth t u a b p q e g h k =
      (p && q, and_value v t u p q e g, opposite_known (both either a b) (not p || not q) (p && q) (either_known a b (not p) (not q) h k) (neither p q))

  -- ---- the sixteen

  abbrev RowTruth : Flags → ℕ → Type 0
  RowTruth f n = Truth v (row_words n) (condition_of n f)

  module _ (f : Flags) (stand : FlagsStand f v) where
    -- a number below 8 is one of these, and one below 16 of these and eight more
    high_truth : (n : ℕ) → n < 8 → RowTruth f (suc (suc (suc (suc (suc (suc (suc (suc n))))))))
    high_truth zero h = set_truth 3 f.s stand.s
    high_truth (suc zero) h = clear_truth 3 f.s stand.s
    high_truth (suc (suc zero)) h = set_truth 1 f.p stand.p
    high_truth (suc (suc (suc zero))) h = clear_truth 1 f.p stand.p
    high_truth (suc (suc (suc (suc zero)))) h = differ_truth f.s f.o stand.s stand.o
    high_truth (suc (suc (suc (suc (suc zero))))) h = agree_truth f.s f.o stand.s stand.o
    high_truth (suc (suc (suc (suc (suc (suc zero)))))) h =
        either_truth (flag_set 2) signs_differ (known f.z) (both differ (known f.s) (known f.o)) (set_truth 2 f.z stand.z) (differ_truth f.s f.o stand.s stand.o)
    high_truth (suc (suc (suc (suc (suc (suc (suc zero))))))) h =
        neither_truth (flag_clear 2) signs_agree (known f.z) (both differ (known f.s) (known f.o)) (nat_eq (v (Flag 2)) 0) (nat_eq (v (Flag 3)) (v (Flag 4))) (clear_value 2) agree_value
        (set_known f.z (v (Flag 2)) stand.z) (differ_known f.s f.o (v (Flag 3)) (v (Flag 4)) stand.s stand.o)
    high_truth (suc (suc (suc (suc (suc (suc (suc (suc n)))))))) h = absurd (omega (arith, h))

    row_truth : (n : ℕ) → n < 16 → RowTruth f n
    row_truth zero h = set_truth 4 f.o stand.o
    row_truth (suc zero) h = clear_truth 4 f.o stand.o
    row_truth (suc (suc zero)) h = set_truth 0 f.c stand.c
    row_truth (suc (suc (suc zero))) h = clear_truth 0 f.c stand.c
    row_truth (suc (suc (suc (suc zero)))) h = set_truth 2 f.z stand.z
    row_truth (suc (suc (suc (suc (suc zero))))) h = clear_truth 2 f.z stand.z
    row_truth (suc (suc (suc (suc (suc (suc zero)))))) h = either_truth (flag_set 0) (flag_set 2) (known f.c) (known f.z) (set_truth 0 f.c stand.c) (set_truth 2 f.z stand.z)
    row_truth (suc (suc (suc (suc (suc (suc (suc zero))))))) h =
        neither_truth (flag_clear 0) (flag_clear 2) (known f.c) (known f.z) (nat_eq (v (Flag 0)) 0) (nat_eq (v (Flag 2)) 0) (clear_value 0) (clear_value 2) (set_known f.c (v (Flag 0)) stand.c) (set_known f.z (v (Flag 2)) stand.z)
    row_truth (suc (suc (suc (suc (suc (suc (suc (suc n)))))))) h = high_truth n (omega (arith, h))

-- a condition is that of its number modulo 16
number_modulo : (n : ℕ) (f : Flags) → condition_of (n % 16) f ≡ condition_of n f
number_modulo n f =
    let e : n % 16 % 2 ≡ n % 2 = omega arith in
    let g : n % 16 % 16 ≡ n % 16 = omega arith in
    rw (e, g) refl

pub cond_truth : (n : ℕ) → HasTruth n (cond_words n)
cond_truth n = record {
  truth = λ v f stand.
      subst (λ o. Truth v (row_words (n % 16)) o) (number_modulo n f) (row_truth v f stand (n % 16) (mod_below n 16 (lit< tt)));
}

-- a condition that is made so
pub truth_of_words : (n : ℕ) (r : Result CCond AllocError) → IfOk r (λ t. t ≡ cond_words n) → IfOk r (λ t. HasTruth n t)
truth_of_words n (Ok t) h = subst (HasTruth n) (sym h) (cond_truth n)
truth_of_words n (Err e) h = h
