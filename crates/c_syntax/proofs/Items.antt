-- A Word or a Cond: what an opening parenthesis may begin.
use Rattle.std.proofs.Common.{◌≡◌, List}
use Rattle.c_syntax.specs.declared.syntax.CExpr.{CExpr}
use Rattle.c_syntax.specs.declared.syntax.CCond.{CCond}
use Rattle.c_syntax.specs.declared.token.Token.{Token}
use Rattle.c_syntax.specs.Tokens.{Tokens, word_tokens, cond_tokens}

pub data Item : Type 0 where
  Word : (a : CExpr) → Item
  Cond : (c : CCond) → Item

-- the tokens of a Word or Cond
abbrev pub item_tokens : Item → Tokens
item_tokens (Word a) = word_tokens a
item_tokens (Cond c) = cond_tokens c

-- Tokens begin with those of at most one Word or Cond, and none of its tokens is what follows it.
abbrev pub OneItem : Type 0
OneItem = (i j : Item) (r s : List Token) → item_tokens i r ≡ item_tokens j s → (i ≡ j) × (r ≡ s)
