-- What an answer to the rest of a text rests on: the token that is refused, or the text's end.
use Rattle.std.proofs.Common.{◌≡◌, inr, ℕ, ◌+◌, ◌<◌, List, [], ◌∷◌, ◌++◌, length, take, drop, map, Option, Some, None, slice_range, get_or, refl, sym, ap, ◌∙◌, subst, append_assoc, arith}
use Rattle.std.specs.List.{All}
use Rattle.std.specs.Option.{option_and_then}
use Rattle.std.proofs.lemmas.List.{append-nil, append_cancel_left, get_or_past, length-append, length-map, take-append-drop}
use Rattle.std.proofs.Math.Seq.{get_or-append_seam, take-append_seam, take-append-add}
use Rattle.c_syntax.specs.declared.syntax.CFun.{CFun}
use Rattle.c_syntax.specs.declared.token.Token.{Token}
use Rattle.c_syntax.specs.Lex.{tokens_in}
use Rattle.c_syntax.specs.Spelling.{spelling}
use Rattle.c_syntax.specs.Stands.{StandsFor, CanonicalStands}
use Rattle.c_syntax.specs.Text.{include_line}
use Rattle.c_lex.specs.declared.scan.Lexeme.{Lexeme}
use Rattle.c_lex.specs.Lexemes.{places, place_after, IsToken, IsTokenOf, IsLexeme, IsLast}
use Rattle.c_lex.proofs.Found.{one_token}
use Rattle.read_statements.specs.Turns.{State, Begun, Declaring, Within, Whole, step_of}
use Rattle.read_statements.specs.Readers.{whole_of}
use Rattle.read_statements.specs.Rests.{GoesOn}
use Rattle.read_statements.specs.Reads.{IsStep}
use Rattle.read_statements.proofs.States.{one_token_is}
use Rattle.read_statements.proofs.Ends.{at_the_end_is, from_the_start_is}
use Rattle.c_read.specs.Refusals.{BeginsSome, IsRefusedAfter, IsRefusedAt}
use Rattle.c_read.proofs.Fronts.{Front, begins, front_of}

-- a text that stands for a function has this rest
pub same_rest : (line rest other : List ℕ) → line ++ rest ≡ line ++ other → rest ≡ other
same_rest line rest other e = append_cancel_left line rest other e

-- tokens that stand for a function, and so many of them begin it
stands_begin : (rest : List ℕ) (f : CFun) (n : ℕ) → StandsFor (include_line ++ rest) f → BeginsSome (take n (tokens_in rest))
stands_begin rest f n st = record {
  text = include_line ++ rest;
  f = f;
  stands = st;
  more = drop n (tokens_in rest);
  goes_on = ap tokens_in (sym (same_rest include_line rest st.rest st.begins)) ∙ sym (take-append-drop n (tokens_in rest));
}

-- where the tokens after some begin no text, the whole text stands for none
pub stands_for_none : (rest : List ℕ) (at : ℕ) → (r : IsRefusedAfter rest at) → r.count < length (tokens_in rest)
    → (f : CFun) → StandsFor (include_line ++ rest) f → ⊥
stands_for_none rest at r h f st = r.no_longer h (stands_begin rest f (r.count + 1) st)

-- ---- a list after a front of it

module _ (xs zs : List (List ℕ)) (n : ℕ) (h : n ≡ length xs) where
  take_front : (ys : List (List ℕ)) → zs ≡ xs ++ ys → take n zs ≡ xs
  take_front ys e = ap (take n) e ∙ ap (λ k. take k (xs ++ ys)) h ∙ take-append_seam xs ys

  take_more : (y : List ℕ) (ys : List (List ℕ)) → zs ≡ xs ++ y ∷ ys → take (n + 1) zs ≡ xs ++ y ∷ []
  take_more y ys e = ap (take (n + 1)) e ∙ ap (λ k. take (k + 1) (xs ++ y ∷ ys)) h ∙ take-append-add xs (y ∷ ys) 1

  longer : (ys : List (List ℕ)) → zs ≡ xs ++ ys → length zs ≡ n + length ys
  longer ys e = ap length e ∙ length-append xs ys ∙ ap (λ k. k + length ys) (sym h)

-- what stands after so many places
place_there : (ps firsts qs : List ℕ) (n at d : ℕ) → ps ≡ firsts ++ at ∷ qs → length firsts ≡ n → get_or ps n d ≡ at
place_there ps firsts qs n at d e h = ap (λ q. get_or q n d) e ∙ ap (λ k. get_or (firsts ++ at ∷ qs) k d) (sym h) ∙ get_or-append_seam firsts at qs d

place_past : (ps firsts qs : List ℕ) (n d : ℕ) → ps ≡ firsts ++ qs → qs ≡ [] → length firsts ≡ n → get_or ps n d ≡ d
place_past ps firsts qs n d e z h =
    let p : ps ≡ firsts = e ∙ ap (λ q. firsts ++ q) z ∙ append-nil firsts in
    let q = ap length p in
    get_or_past ps n d (omega arith)

-- no token of these bytes is taken
refuses : (bytes : List ℕ) (s : State) (o : Option Token) → IsTokenOf bytes o → None ≡ option_and_then (step_of s) o
    → (x : Token) → IsToken x → spelling x ≡ bytes → step_of s x ≡ None
refuses bytes s None t e x i p = absurd (t x i p)
refuses bytes s (Some y) t e x i p = ap (step_of s) (one_token x y i t.0 (p ∙ sym t.1)) ∙ sym e

module _ (canonical : CanonicalStands) (rest : List ℕ) (from : ℕ) (s : State) (b : Front rest from s) where
  -- ---- a token is refused

  module _ (l : Lexeme) (i : IsLexeme rest from l) (e : None ≡ option_and_then (step_of s) l.token) where
    no_token : (f : CFun) (more : List Token) (x : Token) → IsToken x → spelling x ≡ slice_range rest l.at l.end → GoesOn s f (x ∷ more) → ⊥
    no_token f more x k p g =
        let none = refuses (slice_range rest l.at l.end) s l.token i.token e x k p in
        subst (λ o. IsStep f o more (GoesOn s f (x ∷ more))) none (one_token_is s f x more b.read k) g

    no_function : (f : CFun) (bs : List (List ℕ)) (more : List Token) → GoesOn s f more → All IsToken more
        → map spelling more ≡ slice_range rest l.at l.end ∷ bs → ⊥
    no_function f bs [] g k q = let z : ⊥ = cc in z
    no_function f bs (x ∷ xs) g k q = no_token f xs x (k 0 x (omega arith)) (cc) g

    none_begins : BeginsSome (map spelling b.ts ++ slice_range rest l.at l.end ∷ []) → ⊥
    none_begins g =
        let bytes : List ℕ = slice_range rest l.at l.end in
        let q = front_of rest from s b g.f (bytes ∷ g.more) g.stands.well_formed
        (sym g.stands.tokens ∙ g.goes_on ∙ append_assoc (map spelling b.ts) (bytes ∷ []) g.more) in
        no_function g.f g.more q.0 q.1 q.2 q.3

    -- the tokens that were read, the one that is refused, and those after it
    all_tokens : tokens_in rest ≡ map spelling b.ts ++ slice_range rest l.at l.end ∷ tokens_in (drop l.end rest)
    all_tokens = b.tokens ∙ ap (λ q. map spelling b.ts ++ q) i.tokens

    -- one more at least
    has_more : length b.ts < length (tokens_in rest)
    has_more =
        let tail : List (List ℕ) = tokens_in (drop l.end rest) in
        let e = longer (map spelling b.ts) (tokens_in rest) (length b.ts) (sym (length-map b.ts spelling)) (slice_range rest l.at l.end ∷ tail) all_tokens in
        omega arith

    its_place : place_after (length b.ts) rest ≡ l.at
    its_place =
        let qs : List ℕ = places [] l.end (drop l.end rest) in
        place_there (places [] 0 rest) b.firsts qs (length b.ts) l.at (length rest) (b.places ∙ ap (λ q. b.firsts ++ q) i.places) b.long

    abbrev refused_after : IsRefusedAfter rest (length include_line + l.at)
    refused_after =
        let bytes : List ℕ = slice_range rest l.at l.end in
        let tail : List (List ℕ) = tokens_in (drop l.end rest) in
        let n : length b.ts ≡ length (map spelling b.ts) = sym (length-map b.ts spelling) in
        let front = take_front (map spelling b.ts) (tokens_in rest) (length b.ts) n (bytes ∷ tail) all_tokens in
        let more = take_more (map spelling b.ts) (tokens_in rest) (length b.ts) n bytes tail all_tokens in
        let h = has_more in
        record {
          count = length b.ts;
          within = omega arith;
          longest = subst BeginsSome (sym front) (begins canonical rest from s b);
          no_longer = λ _ g. none_begins (subst BeginsSome more g);
          place = ap (λ k. length include_line + k) (sym its_place);
        }

    pub token_refused : IsRefusedAt (include_line ++ rest) (length include_line + l.at)
    token_refused = record {
      stands_for_none = stands_for_none rest (length include_line + l.at) refused_after has_more;
      place = inr (rest, refl, refused_after);
    }

  -- ---- the text ends

  module _ (i : IsLast rest from) where
    all_read : tokens_in rest ≡ map spelling b.ts
    all_read = b.tokens ∙ ap (λ q. map spelling b.ts ++ q) i.tokens ∙ append-nil (map spelling b.ts)

    nothing_more : (f : CFun) (more : List Token) → GoesOn s f more → map spelling more ≡ [] → s ≡ Whole f
    nothing_more f [] g q = (at_the_end_is s f).0 g
    nothing_more f (x ∷ xs) g q = absurd (let z : ⊥ = cc in z)

    is_whole : (f : CFun) → StandsFor (include_line ++ rest) f → s ≡ Whole f
    is_whole f st =
        let same : rest ≡ st.rest = same_rest include_line rest st.rest st.begins in
        let q = front_of rest from s b f [] st.well_formed (sym st.tokens ∙ ap tokens_in (sym same) ∙ all_read ∙ sym (append-nil (map spelling b.ts))) in
        nothing_more f q.0 q.1 q.3

    abbrev ended_after : IsRefusedAfter rest (length include_line + length rest)
    ended_after =
        let n : length b.ts ≡ length (map spelling b.ts) = sym (length-map b.ts spelling) in
        let many : length (tokens_in rest) ≡ length b.ts = ap length all_read ∙ sym n in
        let front = take_front (map spelling b.ts) (tokens_in rest) (length b.ts) n [] (all_read ∙ sym (append-nil (map spelling b.ts))) in
        let qs : List ℕ = places [] from (drop from rest) in
        let there = place_past (places [] 0 rest) b.firsts qs (length b.ts) (length rest) b.places i.places b.long in
        record {
          count = length b.ts;
          within = omega arith;
          longest = subst BeginsSome (sym front) (begins canonical rest from s b);
          no_longer = λ h g. omega arith;
          place = ap (λ k. length include_line + k) (sym there);
        }

    pub end_refused : whole_of s ≡ None → IsRefusedAt (include_line ++ rest) (length include_line + length rest)
    end_refused w = record {
      stands_for_none = λ f st. let p = ap whole_of (is_whole f st) in let z : ⊥ = cc in z;
      place = inr (rest, refl, ended_after);
    }

    whole_is : (t : State) (f : CFun) → whole_of t ≡ Some f → t ≡ Whole f
    whole_is (Begun h) f e = absurd (let z : ⊥ = cc in z)
    whole_is (Declaring a l d) f e = absurd (let z : ⊥ = cc in z)
    whole_is (Within a l c) f e = absurd (let z : ⊥ = cc in z)
    whole_is (Whole g) f e = ap Whole (let p : g ≡ f = cc in p)

    pub end_stands : (f : CFun) → whole_of s ≡ Some f → StandsFor (include_line ++ rest) f
    end_stands f w =
        let g : GoesOn s f [] = (at_the_end_is s f).1 (whole_is s f w) in
        let q = (from_the_start_is f (b.ts ++ [])).0 (b.back f [] g) in
        record { rest = rest; begins = refl; tokens = all_read ∙ ap (map spelling) (sym (append-nil b.ts) ∙ q.1); well_formed = q.0 }
