-- Masks that cover Words, from masks that cover their parts.
use Rattle.std.proofs.Common.{◌≡◌, ℕ, ◌-◌, ◌^◌, ◌&&◌, Bool, true, false, nat_eq, Option, Some, None, unwrap_or, refl, sym, ap, ◌∙◌, subst}
use Rattle.std.proofs.lemmas.Bool.{eqb-true}
use Rattle.std.specs.Prelude.{IsTrue, bit_and, bit_or, bit_xor, int_lt, is_none}
use Rattle.dream_words.specs.Words.{has_even_ones, signed_part, quotient_of, signed_quotient_of}
use Rattle.run_parts.specs.World.{Names}
use Rattle.c_syntax.specs.declared.syntax.CBin.{CBin}
use Rattle.c_syntax.specs.declared.syntax.CBin.TheVariants.{And, Or, Xor, Shl, Shr}
use Rattle.c_syntax.specs.declared.syntax.CFn1.{CFn1}
use Rattle.c_syntax.specs.declared.syntax.CFn1.TheVariants.{Par}
use Rattle.c_syntax.specs.declared.syntax.CFn2.{CFn2}
use Rattle.c_syntax.specs.declared.syntax.CFn2.TheVariants.{Lts}
use Rattle.c_syntax.specs.declared.syntax.CFn3.{CFn3}
use Rattle.c_syntax.specs.declared.syntax.CFn3.TheVariants.{Divubad, Divsbad}
use Rattle.c_syntax.specs.declared.syntax.CExpr as words
use Rattle.c_syntax.specs.declared.syntax.CExpr.{CExpr}
use Rattle.c_syntax.specs.declared.syntax.CExpr.TheVariants as word
use Rattle.c_syntax.specs.declared.syntax.CCond.{CCond}
use Rattle.c_syntax.specs.Words.{bin_of, fn1_of, fn2_of, fn3_of}
use Rattle.c_syntax.specs.Value.{each, both, picked, word_of, truth_of}
use Rattle.c_words.specs.Built.{num, bin, fn1, fn2, fn3, pick}
use Rattle.micro_ir.specs.Rule.{has_flow_names, cond_has_flow_names}
use Rattle.micro_ir.specs.Laws.{IsWordOrStuck}
use Rattle.micro_ir.proofs.Values.{both_true, value_small}
use Rattle.word_rules.specs.Standing.{IsCoveredBy}
use Rattle.word_rules.specs.Numbers.{IsNumber}
use Rattle.word_rules.specs.Covers.{CoversBin, CoversFn1, CoversFn2, CoversFn3}
use Rattle.word_rules.proofs.Layers as l
use Rattle.word_rules.proofs.Bits.{wider_covers, and_covered, or_covered, xor_covered, first_covered, second_covered, all_covers, bit_covered, left_shift_covered, right_shift_covered}

-- ---- where a value comes from

pub each_case : {A B : Type 0} (f : A → B) (o : Option A) (z : B) (P : Type 0) → each f o ≡ Some z → ((x : A) → o ≡ Some x → f x ≡ z → P) → P
each_case f None z P e k = absurd (let n : ⊥ = cc in n)
each_case f (Some x) z P e k = k x refl (let i : f x ≡ z = cc in i)

pub both_case : {A B C : Type 0} (f : A → B → Option C) (o : Option A) (p : Option B) (z : C) (P : Type 0) → both f o p ≡ Some z → ((x : A) (y : B) → o ≡ Some x → p ≡ Some y → f x y ≡ Some z → P) → P
both_case f None p z P e k = absurd (let n : ⊥ = cc in n)
both_case f (Some x) None z P e k = absurd (let n : ⊥ = cc in n)
both_case f (Some x) (Some y) z P e k = k x y refl refl e

pub picked_case : {A : Type 0} (o : Option Bool) (a b : Option A) (z : A) (P : Type 0) → picked o a b ≡ Some z → (a ≡ Some z → P) → (b ≡ Some z → P) → P
picked_case None a b z P e h k = absurd (let n : ⊥ = cc in n)
picked_case (Some true) a b z P e h k = h e
picked_case (Some false) a b z P e h k = k e

-- the value of a number
pub value_of_num : (e : CExpr) (n x : ℕ) (v : Names) → e ≡ num n → word_of e v ≡ Some x → x ≡ n
value_of_num e n x v i h = let k : word_of e v ≡ Some n = ap (λ g. word_of g v) i ∙ l.num_value v n in cc

-- ---- each kind of Word

-- all bits cover a Word
pub all_cover : (e : CExpr) → IsCoveredBy e (2 ^ 32 - 1)
all_cover e t v s x h = all_covers x (subst IsWordOrStuck h (value_small e t v s))

covers_bin : (op : CBin) (a b : CExpr) (p q r : ℕ) → ((x y z : ℕ) → bit_and x p ≡ x → bit_and y q ≡ y → bin_of op x y ≡ Some z → bit_and z r ≡ z) → IsCoveredBy a p → IsCoveredBy b q → IsCoveredBy (bin op a b) r
covers_bin op a b p q r law ha hb t v s z h =
    let n = both_true (has_flow_names a) (has_flow_names b) (subst IsTrue (l.bin_names op a b) t) in
    both_case (bin_of op) (word_of a v) (word_of b v) z _ (sym (l.bin_value v op a b) ∙ h) (λ x y i j e. law x y z (ha n.0 v s x i) (hb n.1 v s y j) e)

pub and_covers : (op : CBin) (p q : ℕ) (k : Option ℕ) → op ≡ And → CoversBin op p q k (bit_and p q)
and_covers op p q k i = record {
  covers = λ a b n. subst (λ o. IsCoveredBy a p → IsCoveredBy b q → IsCoveredBy (bin o a b) (bit_and p q)) (sym i)
      (covers_bin And a b p q (bit_and p q) (λ x y z h g e. let j : bit_and x y ≡ z = cc in subst (λ m. bit_and m (bit_and p q) ≡ m) j (and_covered x y p q h g)));
}

pub or_covers : (op : CBin) (p q : ℕ) (k : Option ℕ) → op ≡ Or → CoversBin op p q k (bit_or p q)
or_covers op p q k i = record {
  covers = λ a b n. subst (λ o. IsCoveredBy a p → IsCoveredBy b q → IsCoveredBy (bin o a b) (bit_or p q)) (sym i)
      (covers_bin Or a b p q (bit_or p q) (λ x y z h g e. let j : bit_or x y ≡ z = cc in subst (λ m. bit_and m (bit_or p q) ≡ m) j (or_covered x y p q h g)));
}

pub xor_covers : (op : CBin) (p q : ℕ) (k : Option ℕ) → op ≡ Xor → CoversBin op p q k (bit_or p q)
xor_covers op p q k i = record {
  covers = λ a b n. subst (λ o. IsCoveredBy a p → IsCoveredBy b q → IsCoveredBy (bin o a b) (bit_or p q)) (sym i)
      (covers_bin Xor a b p q (bit_or p q) (λ x y z h g e. let j : bit_xor x y ≡ z = cc in subst (λ m. bit_and m (bit_or p q) ≡ m) j (xor_covered x y p q h g)));
}

pub all_cover_bin : (op : CBin) (p q : ℕ) (k : Option ℕ) → CoversBin op p q k (2 ^ 32 - 1)
all_cover_bin op p q k = record { covers = λ a b n h g. all_cover (bin op a b) }

-- a shift by a number, from the mask that is shifted so
covers_shift : (op : CBin) (p q k r : ℕ) → ((x z : ℕ) → bit_and x p ≡ x → bin_of op x k ≡ Some z → bit_and z r ≡ z) → CoversBin op p q (Some k) r
covers_shift op p q k r law = record {
  covers = λ a b n ha hb t v s z h.
      let w = both_true (has_flow_names a) (has_flow_names b) (subst IsTrue (l.bin_names op a b) t) in
      both_case (bin_of op) (word_of a v) (word_of b v) z _ (sym (l.bin_value v op a b) ∙ h)
      (λ x y e f g. let j : y ≡ k = value_of_num b k y v n f in law x z (ha w.0 v s x e) (ap (bin_of op x) (sym j) ∙ g));
}

pub left_covers : (p q k r : ℕ) (n o : Option ℕ) → n ≡ Some k → o ≡ bin_of Shl p k → r ≡ unwrap_or o 0 → CoversBin Shl p q n r
left_covers p q k r n o i e f =
    subst (λ m. CoversBin Shl p q m r) (sym i) (covers_shift Shl p q k r (λ x z h g. subst (λ m. bit_and z m ≡ z) (sym (f ∙ ap (λ w. unwrap_or w 0) e)) (left_shift_covered x p k z h g)))

pub right_covers : (p q k r : ℕ) (n o : Option ℕ) → n ≡ Some k → o ≡ bin_of Shr p k → r ≡ unwrap_or o 0 → CoversBin Shr p q n r
right_covers p q k r n o i e f =
    subst (λ m. CoversBin Shr p q m r) (sym i) (covers_shift Shr p q k r (λ x z h g. subst (λ m. bit_and z m ≡ z) (sym (f ∙ ap (λ w. unwrap_or w 0) e)) (right_shift_covered x p k z h g)))

-- ---- functions

pub all_cover_fn1 : (f : CFn1) → CoversFn1 f (2 ^ 32 - 1)
all_cover_fn1 f = record { covers = λ a. all_cover (fn1 f a) }

pub all_cover_fn2 : (f : CFn2) → CoversFn2 f (2 ^ 32 - 1)
all_cover_fn2 f = record { covers = λ a b. all_cover (fn2 f a b) }

pub all_cover_fn3 : (f : CFn3) → CoversFn3 f (2 ^ 32 - 1)
all_cover_fn3 f = record { covers = λ a b d. all_cover (fn3 f a b d) }

pub parity_covers : (f : CFn1) → f ≡ Par → CoversFn1 f 1
parity_covers f i = subst (λ g. CoversFn1 g 1) (sym i) (record {
  covers = λ a t v s z h. each_case (fn1_of Par) (word_of a v) z _ (sym (l.fn1_value v Par a) ∙ h) (λ x e g. subst (λ m. bit_and m 1 ≡ m) g (bit_covered (has_even_ones x)));
})

pub less_covers : (f : CFn2) → f ≡ Lts → CoversFn2 f 1
less_covers f i = subst (λ g. CoversFn2 g 1) (sym i) (record {
  covers = λ a b t v s z h. both_case (λ x y. Some (fn2_of Lts x y)) (word_of a v) (word_of b v) z _ (sym (l.fn2_value v Lts a b) ∙ h)
      (λ x y e j g. let k : fn2_of Lts x y ≡ z = cc in subst (λ m. bit_and m 1 ≡ m) k (bit_covered (int_lt (signed_part 32 x) (signed_part 32 y))));
})

covers_three : (f : CFn3) → ((x y z : ℕ) → bit_and (fn3_of f x y z) 1 ≡ fn3_of f x y z) → CoversFn3 f 1
covers_three f law = record {
  covers = λ a b d t v s z h. both_case (λ p w. Some (p w)) (both (λ x y. Some (fn3_of f x y)) (word_of a v) (word_of b v)) (word_of d v) z _ (sym (l.fn3_value v f a b d) ∙ h)
      (λ p w e j g. both_case (λ x y. Some (fn3_of f x y)) (word_of a v) (word_of b v) p _ e
      (λ x y m n o. let k : fn3_of f x y ≡ p = cc in let u : p w ≡ z = cc in subst (λ r. bit_and r 1 ≡ r) (ap (λ q. q w) k ∙ u) (law x y w)));
}

pub bad_covers : (f : CFn3) → f ≡ Divubad → CoversFn3 f 1
bad_covers f i = subst (λ g. CoversFn3 g 1) (sym i) (covers_three Divubad (λ x y z. bit_covered (is_none (quotient_of 32 x y z))))

pub signed_bad_covers : (f : CFn3) → f ≡ Divsbad → CoversFn3 f 1
signed_bad_covers f i = subst (λ g. CoversFn3 g 1) (sym i) (covers_three Divsbad (λ x y z. bit_covered (is_none (signed_quotient_of 32 x y z))))

-- ---- Words by their variants

pub bin_covered : (op : CBin) (a b x y z e : CExpr) (p q r : ℕ) (k : Option ℕ) → e ≡ words.Bin op a b → x ≡ a → y ≡ b → z ≡ b → IsCoveredBy x p → IsCoveredBy y q → IsNumber z k → CoversBin op p q k r → IsCoveredBy e r
bin_covered op a b x y z e p q r k i j m n ha hb hk law =
    subst (λ f. IsCoveredBy f r) (word.rolls-Bin op a b ∙ sym i) (law.covers a b (subst (λ f. IsNumber f k) n hk) (subst (λ f. IsCoveredBy f p) j ha) (subst (λ f. IsCoveredBy f q) m hb))

pub fn1_covered : (f : CFn1) (a e : CExpr) (r : ℕ) → e ≡ words.Fn1 f a → CoversFn1 f r → IsCoveredBy e r
fn1_covered f a e r i law = subst (λ g. IsCoveredBy g r) (word.rolls-Fn1 f a ∙ sym i) (law.covers a)

pub fn2_covered : (f : CFn2) (a b e : CExpr) (r : ℕ) → e ≡ words.Fn2 f a b → CoversFn2 f r → IsCoveredBy e r
fn2_covered f a b e r i law = subst (λ g. IsCoveredBy g r) (word.rolls-Fn2 f a b ∙ sym i) (law.covers a b)

pub fn3_covered : (f : CFn3) (a b d e : CExpr) (r : ℕ) → e ≡ words.Fn3 f a b d → CoversFn3 f r → IsCoveredBy e r
fn3_covered f a b d e r i law = subst (λ g. IsCoveredBy g r) (word.rolls-Fn3 f a b d ∙ sym i) (law.covers a b d)

pick_covers : (t : CCond) (a b : CExpr) (p q : ℕ) → IsCoveredBy a p → IsCoveredBy b q → IsCoveredBy (pick t a b) (bit_or p q)
pick_covers t a b p q ha hb n v s z h =
    let m = both_true (cond_has_flow_names t) (has_flow_names a && has_flow_names b) (subst IsTrue (l.pick_names t a b) n) in
    let w = both_true (has_flow_names a) (has_flow_names b) m.1 in
    picked_case (truth_of t v) (word_of a v) (word_of b v) z _ (sym (l.pick_value v t a b) ∙ h)
    (λ e. first_covered z p q (ha w.0 v s z e)) (λ e. second_covered z p q (hb w.1 v s z e))

pub pick_covered : (t : CCond) (a b x y e : CExpr) (p q : ℕ) → e ≡ words.Pick t a b → x ≡ a → y ≡ b → IsCoveredBy x p → IsCoveredBy y q → IsCoveredBy e (bit_or p q)
pick_covered t a b x y e p q i j k ha hb =
    subst (λ g. IsCoveredBy g (bit_or p q)) (word.rolls-Pick t a b ∙ sym i) (pick_covers t a b p q (subst (λ f. IsCoveredBy f p) j ha) (subst (λ f. IsCoveredBy f q) k hb))

-- a mask that keeps a mask of a Word covers it
pub covered_by_wider : (a : CExpr) (m k : ℕ) → IsCoveredBy a m → IsTrue (nat_eq (bit_and m k) m) → IsCoveredBy a k
covered_by_wider a m k h t n v s x e = wider_covers x m k (h n v s x e) (eqb-true (bit_and m k) m t)
