-- Steps through a text: what is left of it, byte by byte.
use Rattle.std.proofs.Common.{◌≡◌, ◌≢◌, ℕ, suc, ◌+◌, ◌-◌, ◌*◌, ◌%◌, ◌^◌, ◌<◌, ◌≤◌, true, false, List, [], ◌∷◌, ◌++◌, if◌then◌else◌, length, get_or, take, drop, slice_range, sym, ap, ◌∙◌, arith}
use Rattle.std.proofs.lemmas.List.{drop_more, drop_all}
use Rattle.std.proofs.lemmas.List.Edits.{between_more}
use borrow.Author.Tests.{ne_eqb}
use Rattle.c_syntax.specs.Lex.{extends, is_blank, lex}
use Rattle.c_lex.specs.Lexemes.{places}
use Rattle.c_lex.specs.Candidates.{read, value}

-- the byte at a place
abbrev byte : List ℕ → ℕ → ℕ
byte text i = get_or text i 0

-- a blank belongs to no token
pub blank_tokens : (text : List ℕ) (i : ℕ) → i < length text → is_blank (get_or text i 0) ≡ true → lex [] (drop i text) ≡ lex [] (drop (i + 1) text)
blank_tokens text i h e = ap (lex []) (drop_more text i 0 h) ∙ ap (λ q. if q then lex [] (drop (i + 1) text) else lex (byte text i ∷ []) (drop (i + 1) text)) e

pub blank_places : (text : List ℕ) (i : ℕ) → i < length text → is_blank (get_or text i 0) ≡ true → places [] i (drop i text) ≡ places [] (i + 1) (drop (i + 1) text)
blank_places text i h e =
    ap (places [] i) (drop_more text i 0 h)
    ∙ ap (λ q. if q then places [] (i + 1) (drop (i + 1) text) else i ∷ places (byte text i ∷ []) (i + 1) (drop (i + 1) text)) e

-- what begins with one byte
pub one_byte : (text : List ℕ) (at : ℕ) → at < length text → slice_range text at (at + 1) ≡ get_or text at 0 ∷ []
one_byte text at h = let e : (at + 1) - at ≡ 1 = omega arith in ap (λ k. take k (drop at text)) e ∙ ap (take 1) (drop_more text at 0 h)

-- a token begins with its first byte
pub first_tokens : (text : List ℕ) (at : ℕ) → at < length text → is_blank (get_or text at 0) ≡ false → lex [] (drop at text) ≡ lex (slice_range text at (at + 1)) (drop (at + 1) text)
first_tokens text at h e =
    ap (lex []) (drop_more text at 0 h)
    ∙ ap (λ q. if q then lex [] (drop (at + 1) text) else lex (byte text at ∷ []) (drop (at + 1) text)) e
    ∙ ap (λ t. lex t (drop (at + 1) text)) (sym (one_byte text at h))

pub first_places : (text : List ℕ) (at : ℕ) → at < length text → is_blank (get_or text at 0) ≡ false
    → places [] at (drop at text) ≡ at ∷ places (slice_range text at (at + 1)) (at + 1) (drop (at + 1) text)
first_places text at h e =
    ap (places [] at) (drop_more text at 0 h)
    ∙ ap (λ q. if q then places [] (at + 1) (drop (at + 1) text) else at ∷ places (byte text at ∷ []) (at + 1) (drop (at + 1) text)) e
    ∙ ap (λ t. at ∷ places t (at + 1) (drop (at + 1) text)) (sym (one_byte text at h))

-- a byte more
pub more_tokens : (text : List ℕ) (at i : ℕ) → at ≤ i → i < length text → extends (slice_range text at i) (get_or text i 0) ≡ true
    → lex (slice_range text at i) (drop i text) ≡ lex (slice_range text at (i + 1)) (drop (i + 1) text)
more_tokens text at i l h e =
    ap (lex (slice_range text at i)) (drop_more text i 0 h)
    ∙ longer (slice_range text at i) (byte text i) (drop (i + 1) text) e
    ∙ ap (λ t. lex t (drop (i + 1) text)) (sym (between_more text at i 0 l h))
  where
    longer : (t : List ℕ) (c : ℕ) (rest : List ℕ) → extends t c ≡ true → lex t (c ∷ rest) ≡ lex (t ++ c ∷ []) rest
    longer [] c rest e = absurd (cc)
    longer (a ∷ w) c rest e = ap (λ q. if q then lex ((a ∷ w) ++ c ∷ []) rest else (a ∷ w) ∷ (if is_blank c then lex [] rest else lex (c ∷ []) rest)) e

pub more_places : (text : List ℕ) (at i : ℕ) → at ≤ i → i < length text → extends (slice_range text at i) (get_or text i 0) ≡ true
    → places (slice_range text at i) i (drop i text) ≡ places (slice_range text at (i + 1)) (i + 1) (drop (i + 1) text)
more_places text at i l h e =
    ap (places (slice_range text at i) i) (drop_more text i 0 h)
    ∙ longer (slice_range text at i) i (byte text i) (drop (i + 1) text) e
    ∙ ap (λ t. places t (i + 1) (drop (i + 1) text)) (sym (between_more text at i 0 l h))
  where
    longer : (t : List ℕ) (i c : ℕ) (rest : List ℕ) → extends t c ≡ true → places t i (c ∷ rest) ≡ places (t ++ c ∷ []) (i + 1) rest
    longer t i c rest e = ap (λ q. if q then places (t ++ c ∷ []) (i + 1) rest else (if is_blank c then places [] (i + 1) rest else i ∷ places (c ∷ []) (i + 1) rest)) e

-- bytes from a place to a later one begin with the byte there
first_byte : (text : List ℕ) (at i : ℕ) → at < i → i ≤ length text → slice_range text at i ≡ get_or text at 0 ∷ slice_range text (at + 1) i
first_byte text at i l h =
    let s : at < length text = omega arith in
    let e : i - at ≡ suc (i - (at + 1)) = omega arith in
    ap (λ k. take k (drop at text)) e ∙ ap (take (suc (i - (at + 1)))) (drop_more text at 0 s)

-- a token that has ended
ended_here : (a : ℕ) (w : List ℕ) (c : ℕ) (rest : List ℕ) → extends (a ∷ w) c ≡ false → lex (a ∷ w) (c ∷ rest) ≡ (a ∷ w) ∷ lex [] (c ∷ rest)
ended_here a w c rest e = ap (λ q. if q then lex ((a ∷ w) ++ c ∷ []) rest else (a ∷ w) ∷ (if is_blank c then lex [] rest else lex (c ∷ []) rest)) e

placed_here : (t : List ℕ) (i c : ℕ) (rest : List ℕ) → extends t c ≡ false → places t i (c ∷ rest) ≡ places [] i (c ∷ rest)
placed_here t i c rest e = ap (λ q. if q then places (t ++ c ∷ []) (i + 1) rest else (if is_blank c then places [] (i + 1) rest else i ∷ places (c ∷ []) (i + 1) rest)) e

pub ended_tokens : (text : List ℕ) (at i : ℕ) → at < i → i < length text → extends (slice_range text at i) (get_or text i 0) ≡ false
    → lex (slice_range text at i) (drop i text) ≡ slice_range text at i ∷ lex [] (drop i text)
ended_tokens text at i l h e =
    let f = first_byte text at i l (omega arith) in
    let d = drop_more text i 0 h in
    ap (λ t. lex t (drop i text)) f ∙ ap (lex (byte text at ∷ slice_range text (at + 1) i)) d
    ∙ ended_here (byte text at) (slice_range text (at + 1) i) (byte text i) (drop (i + 1) text) (ap (λ t. extends t (byte text i)) (sym f) ∙ e)
    ∙ ap (λ t. t ∷ lex [] (byte text i ∷ drop (i + 1) text)) (sym f) ∙ ap (λ r. slice_range text at i ∷ lex [] r) (sym d)

pub ended_places : (text : List ℕ) (at i : ℕ) → i < length text → extends (slice_range text at i) (get_or text i 0) ≡ false
    → places (slice_range text at i) i (drop i text) ≡ places [] i (drop i text)
ended_places text at i h e =
    let d = drop_more text i 0 h in
    ap (places (slice_range text at i) i) d ∙ placed_here (slice_range text at i) i (byte text i) (drop (i + 1) text) e ∙ ap (places [] i) (sym d)

-- a text that has ended
pub last_tokens : (text : List ℕ) (at i : ℕ) → at < i → i ≡ length text → lex (slice_range text at i) (drop i text) ≡ slice_range text at i ∷ lex [] (drop i text)
last_tokens text at i l e =
    let f = first_byte text at i l (omega arith) in
    let d = drop_all i text (omega arith) in
    ap (λ t. lex t (drop i text)) f ∙ ap (lex (byte text at ∷ slice_range text (at + 1) i)) d
    ∙ ap (λ t. t ∷ []) (sym f) ∙ ap (λ r. slice_range text at i ∷ lex [] r) (sym d)

pub last_places : (text : List ℕ) (at i : ℕ) → i ≡ length text → places (slice_range text at i) i (drop i text) ≡ places [] i (drop i text)
last_places text at i e = let d = drop_all i text (omega arith) in ap (places (slice_range text at i) i) d ∙ ap (places [] i) (sym d)

-- digits
pub read_stops : (base n i : ℕ) (ds : List ℕ) → i < length ds → get_or ds i 0 ≡ 117 → read base n (drop i ds) ≡ n
read_stops base n i ds h e = ap (read base n) (drop_more ds i 0 h) ∙ ap (λ b. read base n (b ∷ drop (i + 1) ds)) e

pub read_goes : (base n i : ℕ) (ds : List ℕ) → i < length ds → get_or ds i 0 ≢ 117
    → read base n (drop i ds) ≡ read base ((base * n + value (get_or ds i 0)) % 2 ^ 32) (drop (i + 1) ds)
read_goes base n i ds h e =
    ap (read base n) (drop_more ds i 0 h)
    ∙ ap (λ q. if q then n else read base ((base * n + value (byte ds i)) % 2 ^ 32) (drop (i + 1) ds)) (ne_eqb (byte ds i) 117 e)

pub read_ends : (base n i : ℕ) (ds : List ℕ) → length ds ≤ i → read base n (drop i ds) ≡ n
read_ends base n i ds h = ap (read base n) (drop_all i ds h)
