-- A text is refused at one place.
use Rattle.std.proofs.Common.{◌≡◌, ◌⊎◌, inl, inr, ℕ, ◌+◌, ◌<◌, ◌≤◌, Bool, true, false, nat_eq, if◌then◌else◌, List, ◌++◌, length, take, drop, refl, sym, ap, ◌∙◌, subst, append_assoc, arith}
use Rattle.std.specs.List.{starts_with}
use Rattle.std.proofs.lemmas.Bool.{cases_order}
use Rattle.std.proofs.lemmas.Bool.Decides.{Decides-eqb}
use Rattle.std.proofs.lemmas.Slice.Eq.{starts_is}
use Rattle.std.proofs.lemmas.List.{take-append-drop, take-take}
use Rattle.c_syntax.specs.Lex.{tokens_in}
use Rattle.c_syntax.specs.Text.{include_line}
use Rattle.c_lex.specs.Lexemes.{place_after}
use Rattle.c_read.specs.Refusals.{BeginsSome, IsRefusedAfter, IsRefusedBefore, IsPlace, IsRefusedAt}
use Rattle.c_read.specs.Answers.{missing_at}
use Rattle.c_read.proofs.Refusing.{same_rest}

-- a front of what begins some text begins it too
front_begins : (a b : List (List ℕ)) → BeginsSome (a ++ b) → BeginsSome a
front_begins a b g = record { text = g.text; f = g.f; stands = g.stands; more = b ++ g.more; goes_on = g.goes_on ∙ append_assoc a b g.more }

fewer_begin : (xs : List (List ℕ)) (m n : ℕ) → m ≤ n → BeginsSome (take n xs) → BeginsSome (take m xs)
fewer_begin xs m n h g =
    front_begins (take m xs) (drop m (take n xs))
    (subst BeginsSome (sym (take-append-drop m (take n xs)) ∙ ap (λ q. q ++ drop m (take n xs)) (take-take m n xs h)) g)

-- no other count is less
not_less : (rest : List ℕ) (m n : ℕ) (p : IsRefusedAfter rest m) (q : IsRefusedAfter rest n) → p.count < q.count → ⊥
not_less rest m n p q h = let w = q.within in p.no_longer (omega arith) (fewer_begin (tokens_in rest) (p.count + 1) q.count (omega arith) q.longest)

one_after : (rest : List ℕ) (m n : ℕ) → IsRefusedAfter rest m → IsRefusedAfter rest n → m ≡ n
one_after rest m n p q = by_order (cases_order p.count q.count)
  where
    by_order : (p.count ≡ q.count) ⊎ ((p.count < q.count) ⊎ (q.count < p.count)) → m ≡ n
    by_order (inl e) = p.place ∙ ap (λ k. length include_line + place_after k rest) e ∙ sym q.place
    by_order (inr (inl h)) = absurd (not_less rest m n p q h)
    by_order (inr (inr h)) = absurd (not_less rest n m q p h)

-- ---- without the include line

-- whether a text is a front of another, tested
module _ (line text : List ℕ) where
  pub is_front : (b : Bool) → b ≡ starts_with nat_eq line text → b ≡ true → (more : List ℕ) × (line ≡ text ++ more)
  is_front b e h = (drop (length text) line, (starts_is Decides-eqb line text b e).0 h)

  pub no_front : (b : Bool) → b ≡ starts_with nat_eq line text → b ≡ false → (more : List ℕ) → line ≡ text ++ more → ⊥
  no_front b e h more p = let q = (starts_is Decides-eqb line text b e).1 more p in let z : ⊥ = cc in z

-- the place of a text without the include line
before_at : (text : List ℕ) (n : ℕ) → IsRefusedBefore text n → n ≡ missing_at text
before_at text n r = by_test (starts_with nat_eq include_line text) refl
  where
    by_test : (b : Bool) → b ≡ starts_with nat_eq include_line text → n ≡ missing_at text
    by_test true e = let g = is_front include_line text true e refl in r.front g.0 g.1 ∙ ap (λ q. if q then length text else 0) e
    by_test false e = r.other (no_front include_line text false e refl) ∙ ap (λ q. if q then length text else 0) e

pub one_place_is : (text : List ℕ) (m n : ℕ) → IsPlace text m → IsPlace text n → m ≡ n
one_place_is text m n (inl p) (inl q) = before_at text m p ∙ sym (before_at text n q)
one_place_is text m n (inl p) (inr q) = absurd (p.lacks q.0 q.1)
one_place_is text m n (inr p) (inl q) = absurd (q.lacks p.0 p.1)
one_place_is text m n (inr p) (inr q) = one_after p.0 m n p.2 (subst (λ r. IsRefusedAfter r n) (sym (same_rest include_line p.0 q.0 (sym p.1 ∙ q.1))) q.2)

-- a text that doesn't begin with the line is refused there
pub lacks_line : (text : List ℕ) → ((rest : List ℕ) → text ≡ include_line ++ rest → ⊥) → IsRefusedAt text (missing_at text)
lacks_line text h = record {
  stands_for_none = λ f st. h st.rest st.begins;
  place = inl (record { lacks = h; front = front; other = other });
}
  where
    front : (more : List ℕ) → include_line ≡ text ++ more → missing_at text ≡ length text
    front more p = ap (λ q. if q then length text else 0) ((starts_is Decides-eqb include_line text (starts_with nat_eq include_line text) refl).1 more p)

    other : ((more : List ℕ) → include_line ≡ text ++ more → ⊥) → missing_at text ≡ 0
    other n = by_test (starts_with nat_eq include_line text) refl
      where
        by_test : (b : Bool) → b ≡ starts_with nat_eq include_line text → missing_at text ≡ 0
        by_test true e = let g = is_front include_line text true e refl in absurd (n g.0 g.1)
        by_test false e = ap (λ q. if q then length text else 0) (sym e)
