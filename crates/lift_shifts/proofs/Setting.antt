-- The flags of a shift are set: by CL, and where the count is 0, to what they were.
use Rattle.std.proofs.Common.{◌≡◌, ℕ, ◌-◌, ◌/◌, ◌^◌, ◌<◌, nat_eq, Bool, true, false, List, [], ◌∷◌, ◌++◌, Some, refl, sym, ap, ◌∙◌, subst}
use Rattle.std.specs.Prelude.{if◌then◌else◌}
use Rattle.std.proofs.Math.Nat.{mod-eq_of_lt}
use Rattle.dream_words.specs.declared.machine.Bit.{Bit}
use Rattle.dream_words.specs.declared.machine.Bit.TheVariants.{Undefined}
use Rattle.dream_words.specs.declared.machine.Flags.{Flags}
use Rattle.dream_words.specs.declared.machine.Name.TheVariants as name
use Rattle.dream_words.specs.Words.{bit_of, has_even_ones, low_part, sign_bit}
use Rattle.run_parts.specs.World.{Names, World}
use Rattle.x86_inst.specs.declared.Count.{Count}
use Rattle.x86_inst.specs.declared.Count.TheVariants as n
use Rattle.x86_inst.specs.declared.Size.{Size}
use Rattle.x86_inst.specs.declared.Size.TheVariants.{B, H, W}
use Rattle.x86_model.specs.declared.effect.Step.{Step}
use Rattle.x86_model.specs.Arithmetic.{by_result, flag_if}
use Rattle.x86_model.specs.Operands.{bits_of, count_of}
use Rattle.x86_model.specs.Successors.{is_none}
use Rattle.x86_model.specs.WideRows.{where_true}
use Rattle.c_syntax.specs.declared.syntax.CBin.TheVariants as op
use Rattle.c_syntax.specs.declared.syntax.CCmp.TheVariants as test
use Rattle.c_syntax.specs.declared.syntax.CExpr.{CExpr}
use Rattle.c_syntax.specs.declared.syntax.CCond.{CCond}
use Rattle.c_syntax.specs.Value.{truth_of, word_of}
use Rattle.c_words.specs.Built.{cmp, num, pick}
use Rattle.c_words.proofs.Layers.{word_layer}
use Rattle.micro_ir.specs.declared.flow.Stmt.{Stmt}
use Rattle.lift_parts.specs.Parts.{flag, temp}
use Rattle.lift_parts.specs.Stands.{StandsFor}
use Rattle.lift_alu.specs.Words.{even_word, top_word, zero_word}
use Rattle.lift_blocks.proofs.Does.{cmp_is}
use Rattle.lift_blocks.proofs.MoveWords.{bin_value, name_value, num_value, word_if_value}
use Rattle.lift_shifts.specs.Counts.{count_word, may_be_one}
use Rattle.lift_shifts.specs.Shifts.{conditional, sets_flag, sets_result, sets_shifted}
use Rattle.lift_shifts.proofs.CountWords.{count_is, not_one}
use Rattle.lift_shifts.proofs.Outs.{bit_fits, top_is}
use Rattle.lift_shifts.proofs.Taken.{Gives, Known, Seen, Sets, leaves_over, sets_carry, sets_nothing, sets_over, sets_parity, sets_sign, sets_zero}

-- ---- words that stand for flags

-- a truth
truth_stands : (b : Bool) → StandsFor (flag_if b) (bit_of b)
truth_stands true = refl
truth_stands false = refl

-- a word of a truth
pub gives_truth : (b : Bool) (e : CExpr) (v : Names) → word_of e v ≡ Some (bit_of b) → Gives (flag_if b) e v
gives_truth b e v h = (bit_of b, h, bit_fits b, truth_stands b)

-- a word of a truth that is another one where a test holds
pub gives_where : (t b c : Bool) (e : CExpr) (v : Names) → word_of e v ≡ Some (bit_of b) → (t ≡ true → b ≡ c) → Gives (where_true t c) e v
gives_where true b c e v h k = (bit_of b, h, bit_fits b, subst (λ d. StandsFor (flag_if d) (bit_of b)) (k refl) (truth_stands b))
gives_where false b c e v h k = (bit_of b, h, bit_fits b, tt)

-- ---- flags by the result

top_value : (size : Size) (e : CExpr) (x : ℕ) (v : Names) → word_of e v ≡ Some x → word_of (top_word (bits_of size) e) v ≡ Some (x / 2 ^ (bits_of size - 1))
top_value B e x v h = bin_value v op.Shr e (num 7) x 7 h (num_value v 7)
top_value H e x v h = bin_value v op.Shr e (num 15) x 15 h (num_value v 15)
top_value W e x v h = bin_value v op.Shr e (num 31) x 31 h (num_value v 31)

pub top_word_is : (size : Size) (e : CExpr) (x : ℕ) (v : Names) → x < 2 ^ bits_of size → word_of e v ≡ Some x → word_of (top_word (bits_of size) e) v ≡ Some (bit_of (sign_bit (bits_of size) x))
top_word_is size e x v l h = top_value size e x v h ∙ ap Some (top_is size x l)

pub temp_is : (k x : ℕ) (v : Names) → v (name.T k) ≡ x → word_of (temp k) v ≡ Some x
temp_is k x v h = name_value v (name.T k) ∙ ap Some h

zero_word_is : (e : CExpr) (x : ℕ) (v : Names) → word_of e v ≡ Some x → word_of (zero_word e) v ≡ Some (bit_of (nat_eq x 0))
zero_word_is e x v h = word_if_value v (cmp test.Eq e (num 0)) (nat_eq x 0) (cmp_is test.Eq e (num 0) v x 0 h (num_value v 0))

even_word_is : (e : CExpr) (x : ℕ) (v : Names) → word_of e v ≡ Some x → word_of (even_word e) v ≡ Some (bit_of (has_even_ones x))
even_word_is e x v h = simp (word_layer, h)

-- the word of each flag by the result
pub record AreByResult (size : Size) (r : ℕ) (b : Flags) (v : Names) : Type 0 where
  pub sign : Gives b.s (top_word (bits_of size) (temp 2)) v
  pub zero : Gives b.z (zero_word (temp 2)) v
  pub parity : Gives b.p (even_word (temp 2)) v

pub are_by_result : (size : Size) (r : ℕ) (c o : Bit) (a : Step) (x : ℕ) (v : Names) → r < 2 ^ bits_of size → Seen a x r v
    → AreByResult size r (by_result (bits_of size) r c o) v
are_by_result size r c o a x v l h =
    let t : word_of (temp 2) v ≡ Some r = temp_is 2 r v h.result in
    record {
      sign = gives_truth (sign_bit (bits_of size) r) (top_word (bits_of size) (temp 2)) v (top_word_is size (temp 2) r v l t);
      zero = gives_truth (nat_eq (low_part (bits_of size) r) 0) (zero_word (temp 2)) v
          (zero_word_is (temp 2) r v t ∙ ap (λ k. Some (bit_of (nat_eq k 0))) (sym (mod-eq_of_lt l)));
      parity = gives_truth (has_even_ones r) (even_word (temp 2)) v (even_word_is (temp 2) r v t);
    }

-- ---- flags that stay where the count is 0

-- a flag that is kept where the count is 0
abbrev pub unless : Bool → Bit → Bit → Bit
unless z old new = if z then old else new

picks_first : (t : CCond) (e f : CExpr) (v : Names) → truth_of t v ≡ Some true → word_of (pick t e f) v ≡ word_of e v
picks_first t e f v h = simp (word_layer, h)

picks_second : (t : CCond) (e f : CExpr) (v : Names) → truth_of t v ≡ Some false → word_of (pick t e f) v ≡ word_of f v
picks_second t e f v h = simp (word_layer, h)

-- whether the count is 0
none_truth : (a : Step) (x r : ℕ) (c : Count) (z : Bool) → nat_eq (count_of c a) 0 ≡ z → (v : Names) → Seen a x r v → truth_of (cmp test.Eq (count_word c) (num 0)) v ≡ Some z
none_truth a x r c z counted v h = cmp_is test.Eq (count_word c) (num 0) v (count_of c a) 0 (count_is a v h.taken.shows c) (num_value v 0) ∙ ap Some counted

-- a flag gives what it stands for
flag_gives : (a : Step) (x r k : ℕ) (v : Names) (b : Bit) → Seen a x r v → StandsFor b (v (name.Flag k)) → Gives b (flag k) v
flag_gives a x r k v b h s = (v (name.Flag k), name_value v (name.Flag k), h.taken.names.words (name.Flag k), s)

-- a word that is equal to one that gives a flag
gives_as : (b : Bit) (e f : CExpr) (v : Names) → word_of f v ≡ word_of e v → Gives b e v → Gives b f v
gives_as b e f v h g = let (y, is, small, stands) = g in (y, h ∙ is, small, stands)

conditional_gives : (a : Step) (x r : ℕ) (c : Count) (z : Bool) → is_none c ≡ false → nat_eq (count_of c a) 0 ≡ z
    → (k : ℕ) (e : CExpr) (old b : Bit) (v : Names) → Seen a x r v → StandsFor old (v (name.Flag k)) → (z ≡ false → Gives b e v) → Gives (unless z old b) (conditional c k e) v
conditional_gives a x r n.Cl true some counted k e old b v h s g =
    gives_as old (flag k) _ v (picks_first _ (flag k) e v (none_truth a x r n.Cl true counted v h)) (flag_gives a x r k v old h s)
conditional_gives a x r n.Cl false some counted k e old b v h s g =
    gives_as b e _ v (picks_second _ (flag k) e v (none_truth a x r n.Cl false counted v h)) (g refl)
conditional_gives a x r n.One true some counted k e old b v h s g = absurd cc
conditional_gives a x r n.One false some counted k e old b v h s g = g refl
conditional_gives a x r (n.Imm i) true some counted k e old b v h s g = absurd cc
conditional_gives a x r (n.Imm i) false some counted k e old b v h s g = g refl

-- ---- all flags

-- the flags after them, where a rotation keeps SF, ZF and PF
abbrev pub flags_after : Bool → Bool → Flags → Flags → Flags
flags_after rotates z old new = record {
  c = unless z old.c new.c;
  p = if rotates then old.p else unless z old.p new.p;
  z = if rotates then old.z else unless z old.z new.z;
  s = if rotates then old.s else unless z old.s new.s;
  o = unless z old.o new.o;
}

-- where OF isn't set the count is a number other than 1
over_stands : (z : Bool) (old b : Bit) (y : ℕ) → StandsFor old y → b ≡ Undefined → StandsFor (unless z old b) y
over_stands true old b y h e = h
over_stands false old b y h e = subst (λ b. StandsFor b y) (sym e) tt

-- what is given of the words of the flags
pub record GiveFlags (a : Step) (x r : ℕ) (rotates : Bool) (size : Size) (c : Count) (ec eo : CExpr) (f : Flags) : Type 0 where
  pub carry : (v : Names) → Seen a x r v → Gives f.c ec v
  pub over : (v : Names) → Seen a x r v → Gives f.o eo v
  pub result : rotates ≡ false → (v : Names) → Seen a x r v → AreByResult size r f v

module _ (a : Step) (x r : ℕ) (size : Size) (c : Count) (z : Bool) (some : is_none c ≡ false) (counted : nat_eq (count_of c a) 0 ≡ z) where
  -- OF, and the rest
  over_set : (over : CExpr) (b : Bit) (rest : List Stmt) (g : Flags) (t : Bool) → may_be_one c ≡ t → (nat_eq (count_of c a) 1 ≡ false → b ≡ Undefined)
      → (z ≡ false → (v : Names) → Seen a x r v → Gives b over v) → (w : World) → Known a x r a.flags w.names
      → ((u : World) → Known a x r (record a.flags { o = unless z a.flags.o b }) u.names → Sets a x r g rest u)
      → Sets a x r g ((if t then sets_flag c 4 over ∷ [] else []) ++ rest) w
  over_set over b rest g true m undefined gives w k on =
      sets_over a x r a.flags g (unless z a.flags.o b) (conditional c 4 over) rest w
      (conditional_gives a x r c z some counted 4 over a.flags.o b w.names k.seen k.flags.o (λ e. gives e w.names k.seen)) k on
  over_set over b rest g false m undefined gives w k on =
      on w (leaves_over a x r a.flags (unless z a.flags.o b) w.names (over_stands z a.flags.o b (w.names (name.Flag 4)) k.flags.o (undefined (not_one c a m))) k)

  -- SF, ZF and PF, and the rest
  result_set : (f b g : Flags) (rest : List Stmt) (w : World) → (z ≡ false → (v : Names) → Seen a x r v → AreByResult size r b v)
      → Known a x r f w.names
      → ((u : World) → Known a x r (record f { s = unless z f.s b.s; z = unless z f.z b.z; p = unless z f.p b.p }) u.names → Sets a x r g rest u)
      → Sets a x r g (sets_result size c ++ rest) w
  result_set f b g rest w gives k on =
      sets_sign a x r f g (unless z f.s b.s) (conditional c 3 (top_word (bits_of size) (temp 2))) _ w
      (conditional_gives a x r c z some counted 3 (top_word (bits_of size) (temp 2)) f.s b.s w.names k.seen k.flags.s (λ e. (gives e w.names k.seen).sign)) k (λ w3 k3.
      sets_zero a x r (record f { s = unless z f.s b.s }) g (unless z f.z b.z) (conditional c 2 (zero_word (temp 2))) _ w3
      (conditional_gives a x r c z some counted 2 (zero_word (temp 2)) f.z b.z w3.names k3.seen k3.flags.z (λ e. (gives e w3.names k3.seen).zero)) k3 (λ w2 k2.
      sets_parity a x r (record f { s = unless z f.s b.s; z = unless z f.z b.z }) g (unless z f.p b.p) (conditional c 1 (even_word (temp 2))) rest w2
      (conditional_gives a x r c z some counted 1 (even_word (temp 2)) f.p b.p w2.names k2.seen k2.flags.p (λ e. (gives e w2.names k2.seen).parity)) k2 on))

  -- CF alone
  carry_set : (f : Flags) (carry : CExpr) (b : Bit) (w : World) → (z ≡ false → (v : Names) → Seen a x r v → Gives b carry v) → Known a x r f w.names
      → Sets a x r (record f { c = unless z f.c b }) (sets_flag c 0 carry ∷ []) w
  carry_set f carry b w gives k =
      sets_carry a x r f (record f { c = unless z f.c b }) (unless z f.c b) (conditional c 0 carry) [] w
      (conditional_gives a x r c z some counted 0 carry f.c b w.names k.seen k.flags.c (λ e. gives e w.names k.seen)) k (λ u k. sets_nothing a x r (record f { c = unless z f.c b }) u k)

  pub all_set : (rotates : Bool) (carry over : CExpr) (b : Flags) → (z ≡ false → GiveFlags a x r rotates size c carry over b)
      → (nat_eq (count_of c a) 1 ≡ false → b.o ≡ Undefined) → (w : World) → Known a x r a.flags w.names
      → Sets a x r (flags_after rotates z a.flags b) (sets_shifted rotates size c carry over) w
  all_set true carry over b gives undefined w k =
      over_set over b.o _ _ (may_be_one c) refl undefined (λ e. (gives e).over) w k (λ u h.
      carry_set (record a.flags { o = unless z a.flags.o b.o }) carry b.c u (λ e. (gives e).carry) h)
  all_set false carry over b gives undefined w k =
      over_set over b.o _ _ (may_be_one c) refl undefined (λ e. (gives e).over) w k (λ u h.
      result_set (record a.flags { o = unless z a.flags.o b.o }) b _ _ u (λ e. (gives e).result refl) h (λ t i.
      carry_set (record a.flags { o = unless z a.flags.o b.o; s = unless z a.flags.s b.s; z = unless z a.flags.z b.z; p = unless z a.flags.p b.p }) carry b.c t (λ e. (gives e).carry) i))
