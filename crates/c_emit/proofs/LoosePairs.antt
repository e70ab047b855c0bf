-- The function of a tree without a loose pair has none: a loose pair of its lines is one of the tree's lines.
use Rattle.std.proofs.Common.{map, ◌≡◌, ◌⊎◌, inl, inr, ℕ, zero, suc, ◌<◌, ◌≤◌, Bool, true, false, List, [], ◌∷◌, length, refl, sym, ap, ◌∙◌, subst, arith}
use Rattle.std.specs.Prelude.{All, Any, Contains, slice_index_or}
use Rattle.std.proofs.lemmas.List.{length-map, get_or-map}
use Rattle.std.proofs.lemmas.List.Elements.{All-nil, All-cons, All-head, All-tail}
use Rattle.dream_words.specs.declared.machine.Name.{Name}
use Rattle.cond_terms.specs.declared.term.Term.{Term}
use Rattle.guarded.specs.Uses.{Use, Reads, Sets, name_of, names_of, joined, cond_uses, term_uses, tree_uses}
use Rattle.guarded.specs.Numbers.{locals_of}
use Rattle.guarded.specs.Loose.{Line, Choice, Other, IsLoosePair, AnyLoose, CondsClash, TermsClash, tree_lists, tree_row}
use Rattle.guarded.proofs.Induct.{Each}
use Rattle.c_emit.specs.Emitted.{new_name, term_cond}
use Rattle.c_emit.specs.Laws.{renamed_use, EmitAddsNoLoosePair}
use Rattle.c_emit.proofs.Apart.{apart}
use Rattle.c_emit.proofs.Local.{is_known, uses_known}
use Rattle.c_emit.proofs.LooseConds.{terms_clash, terms_same}
use Rattle.c_emit.proofs.LooseKnown.{TermKnown, LineKnown, LinesKnown, tree_known}
use Rattle.c_emit.proofs.LooseLines.{line_moved, printed_lists}
use Rattle.c_emit.proofs.Naming.{moved, two, term_moved}

-- an element of a list, mapped
contains_map : {A B : Type 0} (g : A → B) (xs : List A) (x : A) → Contains xs x → Contains (map g xs) (g x)
contains_map g xs x h = let long = length-map xs g in let l = h.1 in (h.0, omega (arith, long), get_or-map g xs h.0 x (g x) h.1 ∙ ap g h.2)

-- some element of a mapped list has P, so the element that it comes from has Q
any_of_map : {A B : Type 0} (g : A → B) (P : B → Type 0) (Q R : A → Type 0) → ((x : A) → R x → P (g x) → Q x) → (xs : List A) → Each R xs → Any P (map g xs) → Any Q xs
any_of_map g P Q R h [] r a = let l = a.2 in absurd (omega arith)
any_of_map {A} {B} g P Q R h (x ∷ xs) r a = by a.0 a.1 a.2 a.3 a.4 (any_of_map g P Q R h xs r.1)
  where
    by : (k : ℕ) (y : B) → k < length (map g (x ∷ xs)) → slice_index_or (map g (x ∷ xs)) k y ≡ y → P y → (Any P (map g xs) → Any Q xs) → Any Q (x ∷ xs)
    by zero y l e p rest = (0, x, omega arith, refl, h x r.0 (subst P (sym e) p))
    by (suc k) y l e p rest = let b = rest (k, y, omega arith, e, p) in let m = b.2 in (suc b.0, b.1, omega arith, b.3, b.4)

-- ---- the names that are read

name_moved : (f : Name → Name) (u : Use) → name_of (renamed_use f u) ≡ f (name_of u)
name_moved f (Reads n) = refl
name_moved f (Sets n) = refl

names_moved : (f : Name → Name) (us : List Use) → names_of (moved f us) ≡ map f (names_of us)
names_moved f [] = refl
names_moved f (u ∷ us) = ap (λ n. n ∷ names_of (moved f us)) (name_moved f u) ∙ ap (λ ns. f (name_of u) ∷ ns) (names_moved f us)

conds_moved : (f : Name → Name) (ts : List Term) → joined (map cond_uses (map (term_cond f) ts)) ≡ moved f (joined (map term_uses ts))
conds_moved f [] = refl
conds_moved f (t ∷ ts) = two f _ _ (term_uses t) (joined (map term_uses ts)) (term_moved f t) (conds_moved f ts)

-- a name that is read in terms is read in their Conds, renamed
still_read : (f : Name → Name) (ts : List Term) (n : Name) → Contains (names_of (joined (map term_uses ts))) n → Contains (names_of (joined (map cond_uses (map (term_cond f) ts)))) (f n)
still_read f ts n h =
    subst (λ (ns : List Name). Contains ns (f n)) (sym (ap names_of (conds_moved f ts) ∙ names_moved f (joined (map term_uses ts))))
    (contains_map f (names_of (joined (map term_uses ts))) n h)

module _ (X : Name → Bool) (f : Name → Name) (apart : (n m : Name) → X n ≡ true → X m ≡ true → f n ≡ f m → n ≡ m) where
  -- terms that are written as the Cond of a term are just this term
  just_one : (t : Term) (ts : List Term) → TermKnown X t → Each (TermKnown X) ts → map (term_cond f) ts ≡ term_cond f t ∷ [] → ts ≡ t ∷ []
  just_one t [] h k e = let n : ⊥ = cc in absurd n
  just_one t (s ∷ []) h k e = let g : term_cond f s ≡ term_cond f t = cc in ap (λ (x : Term). x ∷ []) (terms_same X f apart s k.0 t h g)
  just_one t (s ∷ u ∷ ts) h k e = let n : ⊥ = cc in absurd n

  all_clash : (t : Term) (ts : List Term) → TermKnown X t → Each (TermKnown X) ts → All (λ c. CondsClash (term_cond f t) c) (map (term_cond f) ts) → All (λ s. TermsClash t s) ts
  all_clash t [] h k a = All-nil (TermsClash t)
  all_clash t (s ∷ ts) h k a =
      All-cons (TermsClash t) s ts (terms_clash X f apart t s h k.0 (All-head (CondsClash (term_cond f t)) (term_cond f s) (map (term_cond f) ts) a))
      (all_clash t ts h k.1 (All-tail (CondsClash (term_cond f t)) (term_cond f s) (map (term_cond f) ts) a))

  all_or_one : (t : Term) (ts : List Term) → TermKnown X t → Each (TermKnown X) ts
      → (map (term_cond f) ts ≡ term_cond f t ∷ []) ⊎ All (λ c. CondsClash (term_cond f t) c) (map (term_cond f) ts) → (ts ≡ t ∷ []) ⊎ All (λ s. TermsClash t s) ts
  all_or_one t ts h k (inl e) = inl (just_one t ts h k e)
  all_or_one t ts h k (inr a) = inr (all_clash t ts h k a)

  -- two lines of the function are a loose pair where those of the tree are
  pair_of : (a b : Line Term) → LineKnown X a → LineKnown X b → IsLoosePair CondsClash cond_uses (line_moved f a) (line_moved f b) → IsLoosePair TermsClash term_uses a b
  pair_of (Choice [] last ns) b h k e = e
  pair_of (Choice (t ∷ s ∷ ts) last ns) b h k e = e
  pair_of (Choice (t ∷ []) true ns) b h k e = e
  pair_of (Choice (t ∷ []) false ns) (Choice ts true others) h k e = e
  pair_of (Choice (t ∷ []) false ns) (Choice ts false others) h k e = (
    subst (λ (n : ℕ). n ≤ 512) (length-map ts (term_cond f)) e.0,
    λ n p q. e.1 (f n) (contains_map f ns n p) (still_read f ts n q),
    all_or_one t ts h.0 k e.2,
  )
  pair_of (Choice (t ∷ []) false ns) Other h k e = e
  pair_of Other b h k e = e

  any_pair : (ls : List (Line Term)) → LinesKnown X ls → AnyLoose CondsClash cond_uses (map (line_moved f) ls) → AnyLoose TermsClash term_uses ls
  any_pair [] h e = e
  any_pair (a ∷ []) h e = e
  any_pair (a ∷ b ∷ rest) h (inl e) = inl (pair_of a b h.0 h.1.0 e)
  any_pair (a ∷ b ∷ rest) h (inr e) = inr (any_pair (b ∷ rest) h.1 e)

-- the law
pub emit_adds_none : EmitAddsNoLoosePair
emit_adds_none t address none some =
    let l = locals_of (names_of (tree_uses t)) in
    none (any_of_map (map (line_moved (new_name l))) (AnyLoose CondsClash cond_uses) (AnyLoose TermsClash term_uses) (LinesKnown (is_known l))
    (any_pair (is_known l) (new_name l) (apart l)) (tree_lists (tree_row t)) (tree_known (is_known l) t (uses_known (tree_uses t)))
    (subst (Any (AnyLoose CondsClash cond_uses)) (printed_lists (new_name l) t) some))
