-- What the words of factors give, and what they see.
use Rattle.std.proofs.Common.{◌≡◌, ℕ, ◌^◌, ◌<◌, Bool, true, false, Some, refl, ap, ◌∙◌, arith}
use Rattle.dream_words.specs.declared.machine.Name.TheVariants as name
use Rattle.dream_words.specs.Words.{bit_of}
use Rattle.run_parts.specs.World.{Names, with_name}
use Rattle.x86_inst.specs.declared.Size.{Size}
use Rattle.x86_inst.specs.declared.Operand.{Operand}
use Rattle.x86_model.specs.declared.effect.Step.{Step}
use Rattle.x86_model.specs.Arithmetic.{flag_if}
use Rattle.x86_model.specs.Operands.{value_of}
use Rattle.c_syntax.specs.declared.syntax.CCmp.{CCmp}
use Rattle.c_syntax.specs.declared.syntax.CExpr.{CExpr}
use Rattle.c_syntax.specs.declared.syntax.CFn3.{CFn3}
use Rattle.c_syntax.specs.Value.{word_of}
use Rattle.c_syntax.specs.Words.{cmp_of, fn3_of}
use Rattle.c_words.specs.Built.{cmp, fn3, word_if}
use Rattle.c_words.proofs.Layers.{word_layer}
use Rattle.lift_parts.specs.Parts.{raw_word}
use Rattle.lift_parts.specs.Shown.{AreNames, Shows, ShowsRead}
use Rattle.lift_parts.specs.Stands.{StandsFor}
use Rattle.lift_parts.proofs.Values.{raw_is, value_is}
use Rattle.lift_parts.proofs.Writes.{names_set, shows_temp, shows_flag}
use Rattle.lift_blocks.proofs.Does.{cmp_is}
use Rattle.lift_blocks.proofs.MoveWords.{extended_again, extended_value, word_if_value}
use Rattle.lift_products.specs.Parts.{factor}
use Rattle.lift_products.proofs.Factors.{factor_of}

-- the names show a step, and t0 what it reads of two operands
pub record Sees (size : Size) (p q : Operand) (a : Step) (v : Names) : Type 0 where
  pub names : AreNames v
  pub shows : Shows a v
  pub first : ShowsRead size p a v
  pub second : ShowsRead size q a v

-- neither a local other than t0 nor a flag is seen
pub sees_temp : (size : Size) (p q : Operand) (a : Step) (v : Names) (n x : ℕ) → with_name v (name.T n) x (name.T 0) ≡ v (name.T 0) → x < 2 ^ 32 → Sees size p q a v
    → Sees size p q a (with_name v (name.T n) x)
sees_temp size p q a v n x e l h = record {
  names = names_set v (name.T n) x h.names l;
  shows = shows_temp a v n x h.shows;
  first = record { read = λ m. e ∙ h.first.read m };
  second = record { read = λ m. e ∙ h.second.read m };
}

pub sees_flag : (size : Size) (p q : Operand) (a : Step) (v : Names) (n x : ℕ) → x < 2 ^ 32 → Sees size p q a v → Sees size p q a (with_name v (name.Flag n) x)
sees_flag size p q a v n x l h = record {
  names = names_set v (name.Flag n) x h.names l;
  shows = shows_flag a v n x h.shows;
  first = record { read = h.first.read };
  second = record { read = h.second.read };
}

-- a factor's word
pub factor_value : (signed : Bool) (size : Size) (p : Operand) (a : Step) (v : Names) → AreNames v → Shows a v → ShowsRead size p a v
    → word_of (factor signed size p) v ≡ Some (factor_of signed size (value_of size p a))
factor_value true size p a v h s r =
    let (x, is, fits, low) = raw_is a v h s size p r in
    extended_value v size (raw_word size p) x is fits ∙ ap Some (extended_again size x (value_of size p a) low)
factor_value false size p a v h s r = value_is a v h s size p r

-- ---- one layer

pub fn3_value : (v : Names) (f : CFn3) (e g h : CExpr) (x y z : ℕ) → word_of e v ≡ Some x → word_of g v ≡ Some y → word_of h v ≡ Some z → word_of (fn3 f e g h) v ≡ Some (fn3_of f x y z)
fn3_value v f e g h x y z i j k = simp (word_layer, i, j, k)

pub test_value : (v : Names) (f : CCmp) (e g : CExpr) (x y : ℕ) → word_of e v ≡ Some x → word_of g v ≡ Some y → word_of (word_if (cmp f e g)) v ≡ Some (bit_of (cmp_of f x y))
test_value v f e g x y i j = word_if_value v (cmp f e g) (cmp_of f x y) (cmp_is f e g v x y i j)

-- ---- truths as words

pub bit_word : (p : Bool) → bit_of p < 2 ^ 32
bit_word true = omega arith
bit_word false = omega arith

pub flag_stands : (p : Bool) → StandsFor (flag_if p) (bit_of p)
flag_stands true = refl
flag_stands false = refl
