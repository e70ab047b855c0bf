-- Tokens that are always spelled alike: which token each mark is, and no other.
use Rattle.std.proofs.Common.{◌≡◌, true, false, refl, sym, ap, ◌∙◌}
use Rattle.c_syntax.specs.declared.token.Token.{Token}
use Rattle.c_syntax.specs.declared.token.Token.TheVariants as tok
use Rattle.read_statements.specs.declared.open.Mark.{Mark}
use Rattle.read_statements.specs.declared.open.Mark.TheVariants as mark
use Rattle.read_statements.specs.Turns.{is_mark}

-- the token that is this mark
abbrev pub token_of : Mark → Token
token_of mark.Open = tok.Open
token_of mark.Close = tok.Close
token_of mark.Begin = tok.Begin
token_of mark.End = tok.End
token_of mark.Semicolon = tok.Semicolon
token_of mark.Colon = tok.Colon
token_of mark.Comma = tok.Comma
token_of mark.Assign = tok.Assign
token_of mark.While = tok.While
token_of mark.Break = tok.Break
token_of mark.Void = tok.Void
token_of mark.Zero = tok.Zero

is_marked : (m : Mark) → true ≡ is_mark m (token_of m)
is_marked mark.Open = refl
is_marked mark.Close = refl
is_marked mark.Begin = refl
is_marked mark.End = refl
is_marked mark.Semicolon = refl
is_marked mark.Colon = refl
is_marked mark.Comma = refl
is_marked mark.Assign = refl
is_marked mark.While = refl
is_marked mark.Break = refl
is_marked mark.Void = refl
is_marked mark.Zero = refl

pub marked : (m n : Mark) (x : Token) → m ≡ n → x ≡ token_of n → true ≡ is_mark m x
marked m n x p q = is_marked n ∙ ap (is_mark n) (sym q) ∙ ap (λ k. is_mark k x) (sym p)

is_unmarked : (m : Mark) (x : Token) → (x ≡ token_of m → ⊥) → false ≡ is_mark m x
is_unmarked mark.Open tok.Open h = absurd (h refl)
is_unmarked mark.Open _ h = refl
is_unmarked mark.Close tok.Close h = absurd (h refl)
is_unmarked mark.Close _ h = refl
is_unmarked mark.Begin tok.Begin h = absurd (h refl)
is_unmarked mark.Begin _ h = refl
is_unmarked mark.End tok.End h = absurd (h refl)
is_unmarked mark.End _ h = refl
is_unmarked mark.Semicolon tok.Semicolon h = absurd (h refl)
is_unmarked mark.Semicolon _ h = refl
is_unmarked mark.Colon tok.Colon h = absurd (h refl)
is_unmarked mark.Colon _ h = refl
is_unmarked mark.Comma tok.Comma h = absurd (h refl)
is_unmarked mark.Comma _ h = refl
is_unmarked mark.Assign tok.Assign h = absurd (h refl)
is_unmarked mark.Assign _ h = refl
is_unmarked mark.While tok.While h = absurd (h refl)
is_unmarked mark.While _ h = refl
is_unmarked mark.Break tok.Break h = absurd (h refl)
is_unmarked mark.Break _ h = refl
is_unmarked mark.Void tok.Void h = absurd (h refl)
is_unmarked mark.Void _ h = refl
is_unmarked mark.Zero tok.Zero h = absurd (h refl)
is_unmarked mark.Zero _ h = refl

pub unmarked : (m n : Mark) (x : Token) → m ≡ n → (x ≡ token_of n → ⊥) → false ≡ is_mark m x
unmarked m n x p h = is_unmarked n x h ∙ ap (λ k. is_mark k x) (sym p)
