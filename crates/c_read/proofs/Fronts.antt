-- A front of what comes after the include line, as far as its tokens were read.
use Rattle.std.proofs.Common.{◌≡◌, ℕ, ◌+◌, List, [], ◌∷◌, ◌++◌, length, drop, map, Option, Some, None, slice_range, refl, sym, ap, ◌∙◌, subst, append_assoc, arith}
use Rattle.std.specs.List.{All}
use Rattle.std.specs.Option.{option_and_then}
use Rattle.std.proofs.lemmas.List.{length-append, map-append}
use Rattle.std.proofs.lemmas.List.Elements.{All-nil, All-push, All-tail}
use Rattle.c_syntax.specs.declared.syntax.CFun.{CFun}
use Rattle.c_syntax.specs.declared.token.Token.{Token}
use Rattle.c_syntax.specs.Lex.{tokens_in}
use Rattle.c_syntax.specs.Spelling.{spelling}
use Rattle.c_syntax.specs.Tokens.{fun_tokens}
use Rattle.c_syntax.specs.Formed.{IsWellFormed}
use Rattle.c_syntax.specs.Stands.{StandsFor, CanonicalStands}
use Rattle.c_syntax.specs.Text.{canonical_text}
use Rattle.c_lex.specs.declared.scan.Lexeme.{Lexeme}
use Rattle.c_lex.specs.Lexemes.{places, IsToken, IsTokenOf, IsLexeme}
use Rattle.c_lex.proofs.Found.{one_token}
use Rattle.c_lex.proofs.Tokens.{function_tokens}
use Rattle.read_statements.specs.Turns.{State, start, step_of}
use Rattle.read_statements.specs.Rests.{GoesOn}
use Rattle.read_statements.specs.Reads.{IsRead, IsStep}
use Rattle.read_statements.proofs.States.{one_token_is}
use Rattle.read_statements.proofs.Leading.{can_go_on_is}
use Rattle.read_statements.proofs.Ends.{from_the_start_is}
use Rattle.c_read.specs.Refusals.{BeginsSome}

-- The tokens up to a place were read: a function goes on from the start with them and more just where it goes on with more
-- from what they made.
pub record Front (rest : List ℕ) (from : ℕ) (s : State) : Type 0 where
  pub ts : List Token
  pub are_tokens : All IsToken ts
  pub tokens : tokens_in rest ≡ map spelling ts ++ tokens_in (drop from rest)
  pub firsts : List ℕ
  pub places : places [] 0 rest ≡ firsts ++ places [] from (drop from rest)
  pub long : length firsts ≡ length ts
  pub read : IsRead s
  pub forth : (f : CFun) (more : List Token) → GoesOn start f (ts ++ more) → GoesOn s f more
  pub back : (f : CFun) (more : List Token) → GoesOn s f more → GoesOn start f (ts ++ more)

-- nothing was read
pub nothing_read : (rest : List ℕ) → Front rest 0 start
nothing_read rest = record {
  ts = [];
  are_tokens = All-nil IsToken;
  tokens = refl;
  firsts = [];
  places = refl;
  long = refl;
  read = tt;
  forth = λ f more g. g;
  back = λ f more g. g;
}

-- the token that was read
module _ (bytes : List ℕ) (s s2 : State) where
  pub taken : (o : Option Token) → IsTokenOf bytes o → Some s2 ≡ option_and_then (step_of s) o
      → (x : Token) × IsToken x × (spelling x ≡ bytes) × (step_of s x ≡ Some s2)
  taken None t e = absurd (let z : ⊥ = cc in z)
  taken (Some x) t e = (x, t.0, t.1, sym e)

module _ (s s2 : State) (x : Token) (e : step_of s x ≡ Some s2) (read : IsRead s) (is : IsToken x) where
  one_step : (f : CFun) (more : List Token) → IsStep f (Some s2) more (GoesOn s f (x ∷ more))
  one_step f more = subst (λ o. IsStep f o more (GoesOn s f (x ∷ more))) e (one_token_is s f x more read is)

-- one token more
module _ (rest : List ℕ) (from : ℕ) (s s2 : State) (l : Lexeme) where
  pub one_more : Front rest from s → IsLexeme rest from l → Some s2 ≡ option_and_then (step_of s) l.token → Front rest l.end s2
  one_more b i e =
      let t = taken (slice_range rest l.at l.end) s s2 l.token i.token e in
      let x : Token = t.0 in
      let step = one_step s s2 x t.3 b.read t.1 in
      let joined = λ (more : List Token). append_assoc b.ts (x ∷ []) more in
      record {
        ts = b.ts ++ x ∷ [];
        are_tokens = All-push IsToken b.ts x b.are_tokens t.1;
        tokens =
            b.tokens ∙ ap (λ q. map spelling b.ts ++ q) (i.tokens ∙ ap (λ q. q ∷ tokens_in (drop l.end rest)) (sym t.2))
            ∙ sym (append_assoc (map spelling b.ts) (spelling x ∷ []) (tokens_in (drop l.end rest)))
            ∙ ap (λ q. q ++ tokens_in (drop l.end rest)) (sym (map-append spelling b.ts (x ∷ [])));
        firsts = b.firsts ++ l.at ∷ [];
        places = b.places ∙ ap (λ q. b.firsts ++ q) i.places ∙ sym (append_assoc b.firsts (l.at ∷ []) (places [] l.end (drop l.end rest)));
        long = length-append b.firsts (l.at ∷ []) ∙ ap (λ n. n + 1) b.long ∙ sym (length-append b.ts (x ∷ []));
        read = (step (can_go_on_is s b.read).0 []).0;
        forth = λ f more g. (step f more).1.0 (b.forth f (x ∷ more) (subst (GoesOn start f) (joined more) g));
        back = λ f more g. subst (GoesOn start f) (sym (joined more)) (b.back f (x ∷ more) ((step f more).1.1 g));
      }

-- what begins so is the front of a function
module _ (canonical : CanonicalStands) where
  pub begins : (rest : List ℕ) (from : ℕ) (s : State) → (b : Front rest from s) → BeginsSome (map spelling b.ts)
  begins rest from s b =
      let c = can_go_on_is s b.read in
      let f : CFun = c.0 in
      let more : List Token = c.2.0 in
      let w = (from_the_start_is f (b.ts ++ more)).0 (b.back f more c.2.1) in
      let st : StandsFor (canonical_text f) f = canonical f w.0 in
      record {
        text = canonical_text f;
        f = f;
        stands = st;
        more = map spelling more;
        goes_on = st.tokens ∙ ap (map spelling) (sym w.1) ∙ map-append spelling b.ts more;
      }

-- ---- what stands for a function that begins so

same_front : (ts xs : List Token) (bs : List (List ℕ)) → All IsToken ts → All IsToken xs → map spelling xs ≡ map spelling ts ++ bs
    → (more : List Token) × (xs ≡ ts ++ more) × All IsToken more × (map spelling more ≡ bs)
same_front [] xs bs h k e = (xs, refl, k, e)
same_front (t ∷ ts) [] bs h k e = absurd (let z : ⊥ = cc in z)
same_front (t ∷ ts) (x ∷ xs) bs h k e =
    let r = same_front ts xs bs (All-tail IsToken t ts h) (All-tail IsToken x xs k) (cc) in
    let p : x ≡ t = one_token x t (k 0 x (omega arith)) (h 0 t (omega arith)) (cc) in
    (r.0, ap (λ q. q ∷ xs) p ∙ ap (λ q. t ∷ q) r.1, r.2, r.3)

-- its tokens are those that were read and others, with which what was read goes on
pub front_of : (rest : List ℕ) (from : ℕ) (s : State) (b : Front rest from s) (f : CFun) (bs : List (List ℕ)) → IsWellFormed f
    → map spelling (fun_tokens f) ≡ map spelling b.ts ++ bs
    → (more : List Token) × GoesOn s f more × All IsToken more × (map spelling more ≡ bs)
front_of rest from s b f bs w e =
    let r = same_front b.ts (fun_tokens f) bs b.are_tokens (function_tokens f w) e in
    (r.0, b.forth f r.0 ((from_the_start_is f (b.ts ++ r.0)).1 (w, sym r.1)), r.2, r.3)
