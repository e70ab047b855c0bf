-- Rules on operators of two Words: what may stand for one, and is plain.
use Rattle.std.proofs.Common.{◌≡◌, ℕ, ◌+◌, ◌^◌, ◌<◌, ◌≤◌, true, false, ◌&&◌, Option, Some, None, unwrap_or, refl, sym, ap, ◌∙◌, subst, arith, lit<}
use Rattle.std.specs.Prelude.{IsTrue, bit_and}
use Rattle.std.proofs.lemmas.Bool.{lt-ltb}
use Rattle.run_parts.specs.World.{Names}
use Rattle.c_syntax.specs.declared.syntax.CBin.{CBin}
use Rattle.c_syntax.specs.declared.syntax.CBin.TheVariants.{And}
use Rattle.c_syntax.specs.declared.syntax.CExpr.{CExpr}
use Rattle.c_syntax.specs.Words.{bin_of}
use Rattle.c_syntax.specs.Value.{both, word_of}
use Rattle.c_words.specs.Built.{num, bin}
use Rattle.micro_ir.specs.Rule.{has_flow_names}
use Rattle.micro_ir.specs.Laws.{IsWordOrStuck}
use Rattle.micro_ir.proofs.Values.{both_true, value_small}
use Rattle.word_rules.specs.Parts.{word_parts}
use Rattle.word_rules.specs.Standing.{AreWords, ForWord, IsCoveredBy}
use Rattle.word_rules.specs.Numbers.{is_number, IsNumber}
use Rattle.word_rules.specs.Operators.{commutes, gives_first, gives_nought, cancels, absorbs}
use Rattle.word_rules.specs.Plain.{stays, word_look, is_plain, has_plain_parts}
use Rattle.word_rules.specs.Settled.{Settles}
use Rattle.word_rules.specs.Turns.{TurnsTo, Merges, MergesWith}
use Rattle.word_rules.proofs.Congruence.{and_true, word_self, word_chain}
use Rattle.word_rules.proofs.Covered.{both_case, value_of_num}
use Rattle.word_rules.proofs.Effects.{commutes_so, first_so, first_else, nought_so, cancels_so, absorbs_so}
use Rattle.word_rules.proofs.Layers as l
use Rattle.word_rules.proofs.Looks.{bin_look, num_plain, bin_number_plain, bin_plain}

-- the value of a Word of a flow is a word
pub word_small : (a : CExpr) (v : Names) (x : ℕ) → IsTrue (has_flow_names a) → AreWords v → word_of a v ≡ Some x → x < 2 ^ 32
word_small a v x t s e = subst IsWordOrStuck e (value_small a t v s)

pub is_small : (n : ℕ) → n < 2 ^ 32 → IsTrue (has_flow_names (num n))
is_small n h = l.num_names n ∙ lt-ltb n (2 ^ 32) h

-- what may stand for an operator of two Words, by the values of both
pub for_bin : (op : CBin) (a b f : CExpr) → ((v : Names) (x y z : ℕ) → word_of a v ≡ Some x → word_of b v ≡ Some y → x < 2 ^ 32 → y < 2 ^ 32 → bin_of op x y ≡ Some z → word_of f v ≡ Some z)
    → (IsTrue (has_flow_names a) → IsTrue (has_flow_names b) → IsTrue (has_flow_names f)) → word_parts f ≤ word_parts a + word_parts b + 1 → ForWord (bin op a b) f
for_bin op a b f value names fewer = record {
  value = λ t v s z h.
      let n = both_true (has_flow_names a) (has_flow_names b) (subst IsTrue (l.bin_names op a b) t) in
      both_case (bin_of op) (word_of a v) (word_of b v) z _ (sym (l.bin_value v op a b) ∙ h) (λ x y e g k. value v x y z e g (word_small a v x n.0 s e) (word_small b v y n.1 s g) k);
  names = λ t. let n = both_true (has_flow_names a) (has_flow_names b) (subst IsTrue (l.bin_names op a b) t) in names n.0 n.1;
  parts = let p = l.bin_parts op a b in omega (arith, p, fewer);
}

-- the parts of an operator are plain
pub parts_of_bin : (op : CBin) (a b : CExpr) → IsTrue (has_plain_parts (bin op a b)) → IsTrue (is_plain a) × IsTrue (is_plain b)
parts_of_bin op a b h = both_true (is_plain a) (is_plain b) (sym (ap (λ k. k.parts) (bin_look op a b)) ∙ h)

pub plain_parts : (op : CBin) (a b : CExpr) → IsTrue (is_plain a) → IsTrue (is_plain b) → IsTrue (has_plain_parts (bin op a b))
plain_parts op a b p q = ap (λ k. k.parts) (bin_look op a b) ∙ and_true (is_plain a) (is_plain b) p q

same_value : (f : CExpr) (v : Names) (x z : ℕ) → word_of f v ≡ Some x → z ≡ x → word_of f v ≡ Some z
same_value f v x z e i = e ∙ ap Some (sym i)

-- ---- with a number on the right

pub onto_two_numbers : (op : CBin) (a : CExpr) (j k r : ℕ) → a ≡ num j → r ≡ unwrap_or (bin_of op j k) 0 → r < 2 ^ 32 → Settles (bin op a (num k)) (num r)
onto_two_numbers op a j k r i e s = record {
  stands = for_bin op a (num k) (num r)
      (λ v x y z ex ey sx sy h.
      let p : x ≡ j = value_of_num a j x v i ex in
      let q : y ≡ k = value_of_num (num k) k y v refl ey in
      let w : bin_of op j k ≡ Some z = ap (λ m. bin_of op m k) (sym p) ∙ ap (bin_of op x) (sym q) ∙ h in
      same_value (num r) v r z (l.num_value v r) (sym (e ∙ ap (λ o. unwrap_or o 0) w)))
      (λ t u. is_small r s)
      (let p = l.num_parts r in omega (arith, p));
  plain = λ h. num_plain r;
}

pub onto_nought : (op : CBin) (a : CExpr) (k : ℕ) → gives_nought op k ≡ true → Settles (bin op a (num k)) (num 0)
onto_nought op a k g = record {
  stands = for_bin op a (num k) (num 0)
      (λ v x y z ex ey sx sy h.
      let q : y ≡ k = value_of_num (num k) k y v refl ey in
      same_value (num 0) v 0 z (l.num_value v 0) (nought_so op k x z g (ap (bin_of op x) (sym q) ∙ h)))
      (λ t u. is_small 0 (lit< tt))
      (let p = l.num_parts 0 in omega (arith, p));
  plain = λ h. num_plain 0;
}

pub onto_first : (op : CBin) (a : CExpr) (k : ℕ) → gives_first op k ≡ true → Settles (bin op a (num k)) a
onto_first op a k g = record {
  stands = for_bin op a (num k) a
      (λ v x y z ex ey sx sy h.
      let q : y ≡ k = value_of_num (num k) k y v refl ey in
      same_value a v x z ex (first_so op k x z g sx (ap (bin_of op x) (sym q) ∙ h)))
      (λ t u. t)
      (omega arith);
  plain = λ h. (parts_of_bin op a (num k) h).0;
}

pub onto_covered : (op : CBin) (a : CExpr) (k : ℕ) → op ≡ And → IsCoveredBy a k → Settles (bin op a (num k)) a
onto_covered op a k i g = record {
  stands = record {
    value = λ t v s z h.
        let n = both_true (has_flow_names a) (has_flow_names (num k)) (subst IsTrue (l.bin_names op a (num k)) t) in
        both_case (bin_of op) (word_of a v) (word_of (num k) v) z _ (sym (l.bin_value v op a (num k)) ∙ h)
        (λ x y ex ey w.
        let q : y ≡ k = value_of_num (num k) k y v refl ey in
        let u : Some (bit_and x k) ≡ Some z = ap (λ o. bin_of o x k) (sym i) ∙ ap (bin_of op x) (sym q) ∙ w in
        let m : bit_and x k ≡ z = cc in
        same_value a v x z ex (sym m ∙ g n.0 v s x ex));
    names = λ t. (both_true (has_flow_names a) (has_flow_names (num k)) (subst IsTrue (l.bin_names op a (num k)) t)).0;
    parts = let p = l.bin_parts op a (num k) in omega (arith, p);
  };
  plain = λ h. (parts_of_bin op a (num k) h).0;
}

pub onto_turned : (op : CBin) (a e : CExpr) (k : ℕ) (m : CBin × ℕ) → is_number a ≡ false → gives_first op k ≡ false → TurnsTo op k m → e ≡ bin m.0 a (num m.1) → Settles (bin op a (num k)) e
onto_turned op a e k m n g t i = subst (Settles (bin op a (num k))) (sym i) (record {
  stands = for_bin op a (num k) (bin m.0 a (num m.1))
      (λ v x y z ex ey sx sy h.
      let q : y ≡ k = value_of_num (num k) k y v refl ey in
      l.bin_value v m.0 a (num m.1) ∙ ap (λ o. both (bin_of m.0) o (word_of (num m.1) v)) ex ∙ ap (both (bin_of m.0) (Some x)) (l.num_value v m.1) ∙ t.value x z sx (ap (bin_of op x) (sym q) ∙ h))
      (λ p q. l.bin_names m.0 a (num m.1) ∙ and_true (has_flow_names a) (has_flow_names (num m.1)) p (is_small m.1 t.small))
      (let p = l.bin_parts m.0 a (num m.1) in let q = l.num_parts k in let r = l.num_parts m.1 in omega (arith, p, q, r));
  plain = λ h. bin_number_plain m.0 a m.1 n (t.effect (first_else op k g)) (parts_of_bin op a (num k) h).0;
})

-- ---- an operator after another

merged_stands : (inner op : CBin) (x : CExpr) (j k : ℕ) (m : CBin × ℕ) → Merges inner j op k m → ForWord (bin op (bin inner x (num j)) (num k)) (bin m.0 x (num m.1))
merged_stands inner op x j k m t = record {
  value = λ names v s z h.
      let n = both_true (has_flow_names (bin inner x (num j))) (has_flow_names (num k)) (subst IsTrue (l.bin_names op (bin inner x (num j)) (num k)) names) in
      let o = both_true (has_flow_names x) (has_flow_names (num j)) (subst IsTrue (l.bin_names inner x (num j)) n.0) in
      both_case (bin_of op) (word_of (bin inner x (num j)) v) (word_of (num k) v) z _ (sym (l.bin_value v op (bin inner x (num j)) (num k)) ∙ h)
      (λ w y ew ey g.
      both_case (bin_of inner) (word_of x v) (word_of (num j) v) w _ (sym (l.bin_value v inner x (num j)) ∙ ew)
      (λ u i eu ei d.
      let q : y ≡ k = value_of_num (num k) k y v refl ey in
      let r : i ≡ j = value_of_num (num j) j i v refl ei in
      let first : bin_of inner u j ≡ Some w = ap (bin_of inner u) (sym r) ∙ d in
      let then : both (bin_of op) (bin_of inner u j) (Some k) ≡ Some z = ap (λ p. both (bin_of op) p (Some k)) first ∙ ap (bin_of op w) (sym q) ∙ g in
      l.bin_value v m.0 x (num m.1) ∙ ap (λ p. both (bin_of m.0) p (word_of (num m.1) v)) eu ∙ ap (both (bin_of m.0) (Some u)) (l.num_value v m.1) ∙ t.value u z (word_small x v u o.0 s eu) then));
  names = λ names.
      let n = both_true (has_flow_names (bin inner x (num j))) (has_flow_names (num k)) (subst IsTrue (l.bin_names op (bin inner x (num j)) (num k)) names) in
      let o = both_true (has_flow_names x) (has_flow_names (num j)) (subst IsTrue (l.bin_names inner x (num j)) n.0) in
      l.bin_names m.0 x (num m.1) ∙ and_true (has_flow_names x) (has_flow_names (num m.1)) o.0 (is_small m.1 t.small);
  parts =
      let p = l.bin_parts op (bin inner x (num j)) (num k) in let q = l.bin_parts inner x (num j) in let r = l.bin_parts m.0 x (num m.1) in
      let u = l.num_parts j in let w = l.num_parts k in let o = l.num_parts m.1 in omega (arith, p, q, r, u, w, o);
}

-- the parts of plain parts
inner_plain : (inner op : CBin) (x : CExpr) (j k : ℕ) → IsTrue (has_plain_parts (bin op (bin inner x (num j)) (num k))) → IsTrue (is_plain x)
inner_plain inner op x j k h =
    let p = (parts_of_bin op (bin inner x (num j)) (num k) h).0 in
    let q = both_true (is_plain x && is_plain (num j)) (stays inner (word_look x).kind (word_look (num j)).kind) (sym (ap (λ w. w.whole) (bin_look inner x (num j))) ∙ p) in
    (both_true (is_plain x) (is_plain (num j)) q.0).0

pub merged_after : (inner op : CBin) (x y e : CExpr) (k : ℕ) (m : CBin × ℕ) → MergesWith inner y op k m → Settles (bin m.0 x (num m.1)) e → Settles (bin op (bin inner x y) (num k)) e
merged_after inner op x y e k m w h = subst (λ d. Settles (bin op (bin inner x d) (num k)) e) (sym w.is) (record {
  stands = word_chain (bin op (bin inner x (num w.number)) (num k)) (bin m.0 x (num m.1)) e (merged_stands inner op x w.number k m w.merges) h.stands;
  plain = λ t. h.plain (plain_parts m.0 x (num m.1) (inner_plain inner op x w.number k t) (num_plain m.1));
})

-- ---- exchanged, and with one Word on both sides

pub exchanged : (op : CBin) (a b e : CExpr) → commutes op ≡ true → Settles (bin op b a) e → Settles (bin op a b) e
exchanged op a b e c h = record {
  stands = word_chain (bin op a b) (bin op b a) e
      (for_bin op a b (bin op b a)
      (λ v x y z ex ey sx sy g. l.bin_value v op b a ∙ ap (λ o. both (bin_of op) o (word_of a v)) ey ∙ ap (both (bin_of op) (Some y)) ex ∙ sym (commutes_so op x y c) ∙ g)
      (λ t u. l.bin_names op b a ∙ and_true (has_flow_names b) (has_flow_names a) u t)
      (let p = l.bin_parts op b a in omega (arith, p)))
      h.stands;
  plain = λ t. let n = parts_of_bin op a b t in h.plain (plain_parts op b a n.1 n.0);
}

pub of_equal_nought : (op : CBin) (a b : CExpr) → a ≡ b → cancels op ≡ true → Settles (bin op a b) (num 0)
of_equal_nought op a b i c = record {
  stands = for_bin op a b (num 0)
      (λ v x y z ex ey sx sy h.
      let w : Some x ≡ Some y = sym ex ∙ ap (λ q. word_of q v) i ∙ ey in
      let q : x ≡ y = cc in
      same_value (num 0) v 0 z (l.num_value v 0) (cancels_so op x z c sx (ap (bin_of op x) q ∙ h)))
      (λ t u. is_small 0 (lit< tt))
      (let p = l.num_parts 0 in omega (arith, p));
  plain = λ h. num_plain 0;
}

pub of_equal_first : (op : CBin) (a b : CExpr) → a ≡ b → absorbs op ≡ true → Settles (bin op a b) a
of_equal_first op a b i c = record {
  stands = for_bin op a b a
      (λ v x y z ex ey sx sy h.
      let w : Some x ≡ Some y = sym ex ∙ ap (λ q. word_of q v) i ∙ ey in
      let q : x ≡ y = cc in
      same_value a v x z ex (absorbs_so op x z c (ap (bin_of op x) q ∙ h)))
      (λ t u. t)
      (omega arith);
  plain = λ h. (parts_of_bin op a b h).0;
}

pub of_two_built : (op : CBin) (a b e : CExpr) → is_number b ≡ false → e ≡ bin op a b → Settles (bin op a b) e
of_two_built op a b e n i = subst (Settles (bin op a b)) (sym i) (record {
  stands = word_self (bin op a b);
  plain = λ h. let p = parts_of_bin op a b h in bin_plain op a b n p.0 p.1;
})

-- ---- steps before a settled Word

pub settles_to : (d e f : CExpr) → e ≡ f → Settles d f → Settles d e
settles_to d e f i h = subst (Settles d) (sym i) h

-- the second Word is that number
pub settles_number : (op : CBin) (a b e : CExpr) (k : ℕ) → b ≡ num k → Settles (bin op a (num k)) e → Settles (bin op a b) e
settles_number op a b e k i h = subst (λ w. Settles (bin op a w) e) (sym i) h

-- the first Word is that number
pub settles_exchanged : (op : CBin) (a b e : CExpr) (k : ℕ) → commutes op ≡ true → a ≡ num k → Settles (bin op b (num k)) e → Settles (bin op a b) e
settles_exchanged op a b e k c i h = exchanged op a b e c (subst (λ w. Settles (bin op b w) e) (sym i) h)

pub merged_after_equal : (inner op : CBin) (x x' y e : CExpr) (k : ℕ) (m : CBin × ℕ) → x' ≡ x → MergesWith inner y op k m → Settles (bin m.0 x' (num m.1)) e → Settles (bin op (bin inner x y) (num k)) e
merged_after_equal inner op x x' y e k m i w h = merged_after inner op x y e k m w (subst (λ d. Settles (bin m.0 d (num m.1)) e) i h)

-- what isn't seen to be a number is none
pub no_number : (e : CExpr) (o : Option ℕ) → IsNumber e o → ((n : ℕ) → o ≡ Some n → ⊥) → is_number e ≡ false
no_number e None h n = h
no_number e (Some k) h n = absurd (n k refl)
