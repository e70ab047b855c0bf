-- The canonical_text text of a Word or Cond is read as its tokens.
use Rattle.std.proofs.Common.{◌≡◌, ℕ, List, [], ◌∷◌, ◌++◌, refl, sym, ap, ◌∙◌, subst, append_assoc, codes}
use Rattle.c_syntax.specs.declared.syntax.CBin.{CBin}
use Rattle.c_syntax.specs.declared.syntax.CCmp.{CCmp}
use Rattle.c_syntax.specs.declared.syntax.CFn1.{CFn1}
use Rattle.c_syntax.specs.declared.syntax.CFn2.{CFn2}
use Rattle.c_syntax.specs.declared.syntax.CFn3.{CFn3}
use Rattle.c_syntax.specs.declared.syntax.CExpr as e
use Rattle.c_syntax.specs.declared.syntax.CExpr.{CExpr, CExpr-F, roll-CExpr}
use Rattle.c_syntax.specs.declared.syntax.CCond as c
use Rattle.c_syntax.specs.declared.syntax.CCond.{CCond, CCond-F, roll-CCond}
use Rattle.c_syntax.specs.declared.token.Token.{Token}
use Rattle.c_syntax.specs.declared.token.Token.TheVariants as t
use Rattle.c_syntax.specs.Lex.{lex}
use Rattle.c_syntax.specs.Spelling.{op_text, cmp_text, fn1_text, fn2_text, fn3_text}
use Rattle.c_syntax.specs.Text as text
use Rattle.c_syntax.specs.Text.{Text, word_text, cond_text}
use Rattle.c_syntax.specs.Tokens as tokens
use Rattle.c_syntax.specs.Tokens.{Tokens, word_tokens, cond_tokens}
use Rattle.c_syntax.proofs.Layers.{word_tokens_layer, cond_tokens_layer, word_text_layer, cond_text_layer}
use Rattle.c_syntax.proofs.Induct.{WordCases, every_word, every_cond}
use Rattle.c_syntax.proofs.Lexing.{spelt, IsApart, after, opens, closes, tilde, num_step, name_step, op_step, cmp_step, fn1_step, fn2_step, fn3_step}

-- the text is read as these tokens, where no letter and no digit follows it
pub record Lexes (x : Text) (p : Tokens) : Type 0 where
  pub reads : (rest : List ℕ) (r : List Token) → IsApart rest → lex [] rest ≡ spelt r → lex [] (x ++ rest) ≡ spelt (p r)

-- and `!` before it is a token
pub record CondLexes (x : Text) (p : Tokens) : Type 0 where
  pub reads : (rest : List ℕ) (r : List Token) → IsApart rest → lex [] rest ≡ spelt r → lex [] (x ++ rest) ≡ spelt (p r)
  pub after_bang : (rest : List ℕ) → lex (33 ∷ []) (x ++ rest) ≡ codes "!" ∷ lex [] (x ++ rest)

module _ (x y z : Text) (p q s : Tokens) (hx : Lexes x p) (hy : Lexes y q) (hz : Lexes z s) where
  -- each form of a Word
  not_lexes : Lexes (text.word_at (CExpr-F.«CExpr::Not» x)) (tokens.word_at (CExpr-F.«CExpr::Not» p))
  not_lexes = record { reads = λ rest r free h. let e : text.word_at (CExpr-F.«CExpr::Not» x) ++ rest ≡ 40 ∷ 126 ∷ (x ++ 41 ∷ rest) = simp append_assoc in ap (lex []) e ∙ (after (codes "(") (tilde (x ++ 41 ∷ rest) (p (t.Close ∷ r)) (hx.reads (41 ∷ rest) (t.Close ∷ r) (refl, refl) (closes rest r h)))) }

  bin_lexes : (op : CBin) → Lexes (text.word_at (CExpr-F.Bin op x y)) (tokens.word_at (CExpr-F.Bin op p q))
  bin_lexes op = record {
    reads = λ rest r free h. let e : text.word_at (CExpr-F.Bin op x y) ++ rest ≡ 40 ∷ (x ++ 32 ∷ (op_text op ++ 32 ∷ (y ++ 41 ∷ rest))) = simp append_assoc in ap (lex []) e ∙
        (opens _ _ (hx.reads (32 ∷ (op_text op ++ 32 ∷ (y ++ 41 ∷ rest))) (t.Op op ∷ q (t.Close ∷ r)) (refl, refl)
        (op_step op (y ++ 41 ∷ rest) (q (t.Close ∷ r)) (hy.reads (41 ∷ rest) (t.Close ∷ r) (refl, refl) (closes rest r h)))));
  }

  fn1_lexes : (f : CFn1) → Lexes (text.word_at (CExpr-F.Fn1 f x)) (tokens.word_at (CExpr-F.Fn1 f p))
  fn1_lexes f = record {
    reads = λ rest r free h. let e : text.word_at (CExpr-F.Fn1 f x) ++ rest ≡ (fn1_text f ++ 40 ∷ (x ++ 41 ∷ rest)) = simp append_assoc in ap (lex []) e ∙
        (fn1_step f (x ++ 41 ∷ rest) (p (t.Close ∷ r)) (hx.reads (41 ∷ rest) (t.Close ∷ r) (refl, refl) (closes rest r h)));
  }

  fn2_lexes : (f : CFn2) → Lexes (text.word_at (CExpr-F.Fn2 f x y)) (tokens.word_at (CExpr-F.Fn2 f p q))
  fn2_lexes f = record {
    reads = λ rest r free h. let e : text.word_at (CExpr-F.Fn2 f x y) ++ rest ≡ (fn2_text f ++ 40 ∷ (x ++ 44 ∷ 32 ∷ (y ++ 41 ∷ rest))) = simp append_assoc in ap (lex []) e ∙
        (fn2_step f (x ++ 44 ∷ 32 ∷ (y ++ 41 ∷ rest)) _ (hx.reads (44 ∷ 32 ∷ (y ++ 41 ∷ rest)) (t.Comma ∷ q (t.Close ∷ r)) (refl, refl)
        (after (codes ",") (hy.reads (41 ∷ rest) (t.Close ∷ r) (refl, refl) (closes rest r h)))));
  }

  fn3_lexes : (f : CFn3) → Lexes (text.word_at (CExpr-F.Fn3 f x y z)) (tokens.word_at (CExpr-F.Fn3 f p q s))
  fn3_lexes f = record {
    reads = λ rest r free h. let e : text.word_at (CExpr-F.Fn3 f x y z) ++ rest ≡ (fn3_text f ++ 40 ∷ (x ++ 44 ∷ 32 ∷ (y ++ 44 ∷ 32 ∷ (z ++ 41 ∷ rest)))) = simp append_assoc in ap (lex []) e ∙
        (fn3_step f (x ++ 44 ∷ 32 ∷ (y ++ 44 ∷ 32 ∷ (z ++ 41 ∷ rest))) _ (hx.reads (44 ∷ 32 ∷ (y ++ 44 ∷ 32 ∷ (z ++ 41 ∷ rest))) (t.Comma ∷ q (t.Comma ∷ s (t.Close ∷ r))) (refl, refl)
        (after (codes ",") (hy.reads (44 ∷ 32 ∷ (z ++ 41 ∷ rest)) (t.Comma ∷ s (t.Close ∷ r)) (refl, refl)
        (after (codes ",") (hz.reads (41 ∷ rest) (t.Close ∷ r) (refl, refl) (closes rest r h)))))));
  }

  -- a comparison
  cmp_lexes : (op : CCmp) → CondLexes (text.cond_at (CCond-F.Cmp op x y)) (tokens.cond_at (CCond-F.Cmp op p q))
  cmp_lexes op = record {
    after_bang = λ rest. refl;
    reads = λ rest r free h. let e : text.cond_at (CCond-F.Cmp op x y) ++ rest ≡ 40 ∷ (x ++ 32 ∷ (cmp_text op ++ 32 ∷ (y ++ 41 ∷ rest))) = simp append_assoc in ap (lex []) e ∙
        (opens _ _ (hx.reads (32 ∷ (cmp_text op ++ 32 ∷ (y ++ 41 ∷ rest))) (t.Compare op ∷ q (t.Close ∷ r)) (refl, refl)
        (cmp_step op (y ++ 41 ∷ rest) (q (t.Close ∷ r)) (hy.reads (41 ∷ rest) (t.Close ∷ r) (refl, refl) (closes rest r h)))));
  }

module _ (x y z : Text) (p q s : Tokens) (hx : CondLexes x p) (hy : Lexes y q) (hz : Lexes z s) where
  -- the conditional word
  pick_lexes : Lexes (text.word_at (CExpr-F.Pick x y z)) (tokens.word_at (CExpr-F.Pick p q s))
  pick_lexes = record {
    reads = λ rest r free h. let e : text.word_at (CExpr-F.Pick x y z) ++ rest ≡ 40 ∷ (x ++ 32 ∷ 63 ∷ 32 ∷ (y ++ 32 ∷ 58 ∷ 32 ∷ (z ++ 41 ∷ rest))) = simp append_assoc in ap (lex []) e ∙
        (opens _ _ (hx.reads (32 ∷ 63 ∷ 32 ∷ (y ++ 32 ∷ 58 ∷ 32 ∷ (z ++ 41 ∷ rest))) (t.Question ∷ q (t.Colon ∷ s (t.Close ∷ r))) (refl, refl)
        (after (codes "?") (hy.reads (32 ∷ 58 ∷ 32 ∷ (z ++ 41 ∷ rest)) (t.Colon ∷ s (t.Close ∷ r)) (refl, refl)
        (after (codes ":") (hz.reads (41 ∷ rest) (t.Close ∷ r) (refl, refl) (closes rest r h)))))));
  }

module _ (x y : Text) (p q : Tokens) (hx : CondLexes x p) (hy : CondLexes y q) where
  -- the other forms of a Cond
  not_cond_lexes : CondLexes (text.cond_at (CCond-F.«CCond::Not» x)) (tokens.cond_at (CCond-F.«CCond::Not» p))
  not_cond_lexes = record {
    after_bang = λ rest. refl;
    reads = λ rest r free h. let e : text.cond_at (CCond-F.«CCond::Not» x) ++ rest ≡ 40 ∷ 33 ∷ (x ++ 41 ∷ rest) = simp append_assoc in ap (lex []) e ∙
        (after (codes "(") (hx.after_bang (41 ∷ rest) ∙ after (codes "!") (hx.reads (41 ∷ rest) (t.Close ∷ r) (refl, refl) (closes rest r h))));
  }

  both_lexes : CondLexes (text.cond_at (CCond-F.And x y)) (tokens.cond_at (CCond-F.And p q))
  both_lexes = record {
    after_bang = λ rest. refl;
    reads = λ rest r free h. let e : text.cond_at (CCond-F.And x y) ++ rest ≡ 40 ∷ (x ++ 32 ∷ 38 ∷ 38 ∷ 32 ∷ (y ++ 41 ∷ rest)) = simp append_assoc in ap (lex []) e ∙
        (opens _ _ (hx.reads (32 ∷ 38 ∷ 38 ∷ 32 ∷ (y ++ 41 ∷ rest)) (t.Both ∷ q (t.Close ∷ r)) (refl, refl)
        (after (codes "&&") (hy.reads (41 ∷ rest) (t.Close ∷ r) (refl, refl) (closes rest r h)))));
  }

  either_lexes : CondLexes (text.cond_at (CCond-F.Or x y)) (tokens.cond_at (CCond-F.Or p q))
  either_lexes = record {
    after_bang = λ rest. refl;
    reads = λ rest r free h. let e : text.cond_at (CCond-F.Or x y) ++ rest ≡ 40 ∷ (x ++ 32 ∷ 124 ∷ 124 ∷ 32 ∷ (y ++ 41 ∷ rest)) = simp append_assoc in ap (lex []) e ∙
        (opens _ _ (hx.reads (32 ∷ 124 ∷ 124 ∷ 32 ∷ (y ++ 41 ∷ rest)) (t.Either ∷ q (t.Close ∷ r)) (refl, refl)
        (after (codes "||") (hy.reads (41 ∷ rest) (t.Close ∷ r) (refl, refl) (closes rest r h)))));
  }

WordLexes : CExpr → Type 0
WordLexes a = Lexes (word_text a) (word_tokens a)

-- a layer over Words and Conds
word_layer : (y : CExpr-F CCond CExpr)
    → Lexes (text.word_at (e.map-CExpr CCond CExpr Text Text cond_text word_text y)) (tokens.word_at (e.map-CExpr CCond CExpr Tokens Tokens cond_tokens word_tokens y))
    → Lexes (word_text (roll-CExpr y)) (word_tokens (roll-CExpr y))
word_layer y h =
    subst (λ p. Lexes (word_text (roll-CExpr y)) p) (sym (word_tokens_layer y))
    (subst (λ x. Lexes x (tokens.word_at (e.map-CExpr CCond CExpr Tokens Tokens cond_tokens word_tokens y))) (sym (word_text_layer y)) h)

cond_layer : (y : CCond-F CCond CExpr)
    → CondLexes (text.cond_at (c.map-CCond CCond CExpr Text Text cond_text word_text y)) (tokens.cond_at (c.map-CCond CCond CExpr Tokens Tokens cond_tokens word_tokens y))
    → CondLexes (cond_text (roll-CCond y)) (cond_tokens (roll-CCond y))
cond_layer y h =
    subst (λ p. CondLexes (cond_text (roll-CCond y)) p) (sym (cond_tokens_layer y))
    (subst (λ x. CondLexes x (tokens.cond_at (c.map-CCond CCond CExpr Tokens Tokens cond_tokens word_tokens y))) (sym (cond_text_layer y)) h)

-- by cases
lexing : WordCases (λ a. Lexes (word_text a) (word_tokens a)) (λ t. CondLexes (cond_text t) (cond_tokens t))
lexing = record {
  num = λ n. word_layer (CExpr-F.Num n) (record { reads = λ rest r free h. num_step n rest r free h });
  name = λ n. word_layer (CExpr-F.Name n) (record { reads = λ rest r free h. name_step n rest r free h });
  not_word = λ a ha. word_layer (CExpr-F.«CExpr::Not» a) (not_lexes _ _ _ _ _ _ ha ha ha);
  bin = λ op a b ha hb. word_layer (CExpr-F.Bin op a b) (bin_lexes _ _ _ _ _ _ ha hb hb op);
  fn1 = λ f a ha. word_layer (CExpr-F.Fn1 f a) (fn1_lexes _ _ _ _ _ _ ha ha ha f);
  fn2 = λ f a b ha hb. word_layer (CExpr-F.Fn2 f a b) (fn2_lexes _ _ _ _ _ _ ha hb hb f);
  fn3 = λ f a b d ha hb hd. word_layer (CExpr-F.Fn3 f a b d) (fn3_lexes _ _ _ _ _ _ ha hb hd f);
  pick = λ t a b ht ha hb. word_layer (CExpr-F.Pick t a b) (pick_lexes _ _ _ _ _ _ ht ha hb);
  cmp = λ op a b ha hb. cond_layer (CCond-F.Cmp op a b) (cmp_lexes _ _ _ _ _ _ ha hb hb op);
  not_cond = λ t ht. cond_layer (CCond-F.«CCond::Not» t) (not_cond_lexes _ _ _ _ ht ht);
  both = λ t u ht hu. cond_layer (CCond-F.And t u) (both_lexes _ _ _ _ ht hu);
  either = λ t u ht hu. cond_layer (CCond-F.Or t u) (either_lexes _ _ _ _ ht hu);
}

-- the text of a Word, and of a Cond, is read as its tokens
pub word_lexes : (a : CExpr) → Lexes (word_text a) (word_tokens a)
word_lexes a = every_word lexing a

pub cond_lexes : (d : CCond) → CondLexes (cond_text d) (cond_tokens d)
cond_lexes d = every_cond lexing d
