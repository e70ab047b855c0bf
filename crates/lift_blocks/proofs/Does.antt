-- What statements do one after another, once their words have values; and states that worlds stand for.
use Rattle.std.proofs.Common.{◌≡◌, ℕ, ◌+◌, ◌-◌, ◌%◌, ◌^◌, ◌<◌, List, ◌∷◌, Some, refl, ap, ◌∙◌}
use Rattle.std.proofs.Math.Nat.{mod-eq_of_lt}
use Rattle.dream_words.specs.declared.machine.Bit.{Bit}
use Rattle.dream_words.specs.declared.machine.Bit.TheVariants.{Zero, One, Undefined}
use Rattle.dream_words.specs.declared.machine.Flags.{Flags}
use Rattle.dream_words.specs.declared.machine.Name.{Name}
use Rattle.dream_words.specs.declared.machine.Name.TheVariants as name
use Rattle.dream_words.specs.declared.machine.Width.{Width}
use Rattle.dream_words.specs.declared.outcome.Answer.{Answer}
use Rattle.dream_words.specs.Memory.{load, store, bytes_of}
use Rattle.dream_words.specs.Pages.{first_bad}
use Rattle.dream_words.specs.Registers.{word_of_bit}
use Rattle.dream_words.specs.Words.{low_part}
use Rattle.run_parts.specs.Steps.{Next, having, then_do}
use Rattle.run_parts.specs.World.{Names, World, with_name, answered}
use Rattle.run_parts.specs.Effects.{allowing, setting, loading, storing, calling, trapping}
use Rattle.c_syntax.specs.declared.syntax.CBin.{CBin}
use Rattle.c_syntax.specs.declared.syntax.CCmp.{CCmp}
use Rattle.c_syntax.specs.declared.syntax.CExpr.{CExpr}
use Rattle.c_syntax.specs.Value.{word_of, truth_of}
use Rattle.c_syntax.specs.Words.{bin_of, cmp_of}
use Rattle.c_words.specs.Built.{num, name as named, bin, cmp}
use Rattle.c_words.proofs.Layers.{word_layer, truth_layer}
use Rattle.x86_model.specs.Arithmetic.{minus_of}
use Rattle.micro_ir.specs.declared.flow.Stmt.{Stmt}
use Rattle.micro_ir.specs.declared.flow.Stmt.TheVariants as stmt
use Rattle.micro_ir.specs.Run.{stmts_do}
use Rattle.micro_ir.specs.World.{IsWorld}
use Rattle.lift_parts.specs.Stands.{StandsFor, FlagsStand, Stands, state_in}
use Rattle.lift_parts.specs.Shown.{AreNames}
use Rattle.lift_parts.proofs.Chains.{then_allowing}

-- ---- words

pub num_is : (k : ℕ) (v : Names) → word_of (num k) v ≡ Some k
num_is k v = simp word_layer

pub name_is : (n : Name) (v : Names) → word_of (named n) v ≡ Some (v n)
name_is n v = simp word_layer

pub bin_is : (f : CBin) (a b : CExpr) (v : Names) (x y : ℕ) → word_of a v ≡ Some x → word_of b v ≡ Some y → word_of (bin f a b) v ≡ bin_of f x y
bin_is f a b v x y h k = simp (word_layer, h, k)

pub cmp_is : (f : CCmp) (a b : CExpr) (v : Names) (x y : ℕ) → word_of a v ≡ Some x → word_of b v ≡ Some y → truth_of (cmp f a b) v ≡ Some (cmp_of f x y)
cmp_is f a b v x y h k = simp (truth_layer, h, k)

-- a difference of words
pub minus_is : (x k : ℕ) → x < 2 ^ 32 → k < 2 ^ 32 → low_part 32 (x + 2 ^ 32 - k) ≡ minus_of 32 x k
minus_is x k h l =
    let e : x % 2 ^ 32 ≡ x = mod-eq_of_lt h in
    let g : k % 2 ^ 32 ≡ k = mod-eq_of_lt l in
    rw (e, g) refl

-- ---- statements

pub set_does : (n : Name) (e : CExpr) (rest : List Stmt) (w : World) (x : ℕ) → word_of e w.names ≡ Some x
    → stmts_do (stmt.Set n e ∷ rest) w ≡ stmts_do rest (record w { names = with_name w.names n x })
set_does n e rest w x h = ap (λ o. then_do (having o (λ y. setting n y w)) (stmts_do rest)) h

pub load_does : (n : Name) (width : Width) (e : CExpr) (rest : List Stmt) (w : World) (at : ℕ) → word_of e w.names ≡ Some at
    → stmts_do (stmt.Load n width e ∷ rest) w
    ≡ allowing (first_bad w.pages.read at (bytes_of width)) w (stmts_do rest (record w { names = with_name w.names n (load w.mem at (bytes_of width)) }))
load_does n width e rest w at h =
    ap (λ o. then_do (having o (λ y. loading n width y w)) (stmts_do rest)) h
    ∙ then_allowing (first_bad w.pages.read at (bytes_of width)) w (setting n (load w.mem at (bytes_of width)) w) (stmts_do rest)

pub store_does : (width : Width) (e f : CExpr) (rest : List Stmt) (w : World) (at x : ℕ) → word_of e w.names ≡ Some at → word_of f w.names ≡ Some x
    → stmts_do (stmt.Store width e f ∷ rest) w
    ≡ allowing (first_bad w.pages.write at (bytes_of width)) w (stmts_do rest (record w { mem = store w.mem at (bytes_of width) x }))
store_does width e f rest w at x h k =
    ap (λ o. then_do (having o (λ y. having (word_of f w.names) (λ z. storing width y z w))) (stmts_do rest)) h
    ∙ ap (λ o. then_do (having o (λ z. storing width at z w)) (stmts_do rest)) k
    ∙ then_allowing (first_bad w.pages.write at (bytes_of width)) w (Next (record w { mem = store w.mem at (bytes_of width) x })) (stmts_do rest)

pub ext_does : (e : CExpr) (rest : List Stmt) (w : World) (target : ℕ) → word_of e w.names ≡ Some target
    → stmts_do (stmt.Ext e ∷ rest) w ≡ then_do (calling target w) (stmts_do rest)
ext_does e rest w target h = ap (λ o. then_do (having o (λ y. calling y w)) (stmts_do rest)) h

pub trap_does : (vector : ℕ) (e : CExpr) (rest : List Stmt) (w : World) (x : ℕ) → word_of e w.names ≡ Some x
    → stmts_do (stmt.Trap vector e ∷ rest) w ≡ then_do (trapping vector x w) (stmts_do rest)
trap_does vector e rest w x h = ap (λ o. then_do (having o (λ y. trapping vector y w)) (stmts_do rest)) h

-- ---- what stands for what

-- the names of a world are names
pub names_of : (w : World) → IsWorld w → AreNames w.names
names_of w i = record { words = i.words; no_register = i.no_register }

pub flags_reg : (f : Flags) (v : Names) (n x : ℕ) → FlagsStand f v → FlagsStand f (with_name v (name.Reg n) x)
flags_reg f v n x h = record { c = h.c; p = h.p; z = h.z; s = h.s; o = h.o }

pub flags_temp : (f : Flags) (v : Names) (n x : ℕ) → FlagsStand f v → FlagsStand f (with_name v (name.T n) x)
flags_temp f v n x h = record { c = h.c; p = h.p; z = h.z; s = h.s; o = h.o }

bit_stands : (b : Bit) → StandsFor b (word_of_bit b)
bit_stands Zero = refl
bit_stands One = refl
bit_stands Undefined = tt

-- the flags of an answer
pub flags_answered : (a : Answer) (v : Names) → FlagsStand a.flags (answered a v)
flags_answered a v = record {
  c = bit_stands a.flags.c;
  p = bit_stands a.flags.p;
  z = bit_stands a.flags.z;
  s = bit_stands a.flags.s;
  o = bit_stands a.flags.o;
}

-- a world stands for its own state
pub stands_here : (w : World) (f : Flags) → FlagsStand f w.names → Stands (state_in w f) w
stands_here w f h = record { regs = refl; flags = h; fs = refl; gs = refl; mem = refl; pages = refl; left = refl; calls = refl }
