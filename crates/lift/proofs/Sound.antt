-- Words of blocks: how deep they are, that they have names of a flow, and that they are stuck nowhere.
use Rattle.std.proofs.Common.{◌≡◌, ℕ, inl, inr, ◌+◌, ◌-◌, ◌*◌, ◌/◌, ◌^◌, ◌<◌, ◌≤◌, max, Bool, true, false, nat_lt, ◌&&◌, cond, Option, Some, None, refl, sym, subst, lit≤, arith}
use Rattle.std.specs.Prelude.{IsSome, IsTrue}
use Rattle.std.proofs.lemmas.Bool.Decides.{nat_tests}
use Rattle.dream_words.specs.declared.machine.Bit.TheVariants.{Undefined}
use Rattle.dream_words.specs.declared.machine.Flags.{Flags}
use Rattle.dream_words.specs.declared.machine.Name.{Name}
use Rattle.dream_words.specs.declared.machine.Name.TheVariants as name
use Rattle.dream_words.specs.Words.{low_part, IsSize}
use Rattle.run_parts.specs.World.{Names}
use Rattle.c_syntax.specs.declared.syntax.CBin.{CBin}
use Rattle.c_syntax.specs.declared.syntax.CBin.TheVariants as op
use Rattle.c_syntax.specs.declared.syntax.CCmp.{CCmp}
use Rattle.c_syntax.specs.declared.syntax.CFn1.{CFn1}
use Rattle.c_syntax.specs.declared.syntax.CFn2.{CFn2}
use Rattle.c_syntax.specs.declared.syntax.CExpr.{CExpr}
use Rattle.c_syntax.specs.declared.syntax.CCond.{CCond}
use Rattle.c_syntax.specs.Depth.{word_depth, cond_depth}
use Rattle.c_syntax.specs.Value.{each, both, picked, word_of, truth_of}
use Rattle.c_syntax.specs.Words.{bin_of, cmp_of, fn1_of, fn2_of}
use Rattle.c_words.specs.Built.{num, name as named, bin, fn1, fn2, pick, cmp, word_not}
use Rattle.c_words.proofs.Layers.{word_layer, truth_layer, word_depth_layer, cond_depth_layer}
use Rattle.micro_ir.specs.Rule.{is_flow_name, has_flow_names, cond_has_flow_names}
use Rattle.x86_inst.specs.declared.AluOp.{AluOp}
use Rattle.x86_inst.specs.declared.Mem.{Mem}
use Rattle.x86_inst.specs.declared.Operand.{Operand}
use Rattle.x86_inst.specs.declared.Size.{Size}
use Rattle.x86_inst.specs.declared.Size.TheVariants.{B, H, W}
use Rattle.x86_formed.specs.Formed.{is_register, is_formed_mem, is_formed_operand}
use Rattle.x86_model.specs.Operands.{bits_of}
use Rattle.lift_parts.specs.Parts.{reg, temp, address_word, raw_word, value_word}
use Rattle.lift_parts.specs.Stands.{FlagsStand}
use Rattle.lift_parts.proofs.Fit.{IsFit, raw_fit, value_fit, address_fit}
use Rattle.lift_parts.proofs.Sureness.{safe_value}
use Rattle.lift_alu.specs.declared.alu.AluLift.{AluLift}
use Rattle.lift_alu.specs.Lifts.{AllGive}
use Rattle.lift_alu.specs.Words.{alu_words, cond_words}
use Rattle.lift_alu.proofs.Operations.{alu_lifts}
use Rattle.lift_alu.proofs.Shapes.{word_names_layer, cond_names_layer, IsWithin, CondWithin, AreWithin, deeper, alu_within, cond_within}
use Rattle.lift_alu.proofs.Truths.{cond_truth}

-- a Word and a Cond at most so deep, with numbers and names of a flow, that are stuck nowhere
pub record IsSound (depth : ℕ) (e : CExpr) : Type 0 where
  pub within : IsWithin depth e
  pub gives : (v : Names) → IsSome (word_of e v)

pub record IsSoundCond (depth : ℕ) (t : CCond) : Type 0 where
  pub within : CondWithin depth t
  pub gives : (v : Names) → IsSome (truth_of t v)

-- what has a value
pub some_value : {A : Type 0} (x : Option A) → IsSome x → (y : A) × (x ≡ Some y)
some_value None h = absurd cc
some_value (Some y) h = (y, refl)

is_some_of : {A : Type 0} (x : Option A) (y : A) → x ≡ Some y → IsSome x
is_some_of x y e = subst IsSome (sym e) refl

both_hold : (p q : Bool) → IsTrue p → IsTrue q → IsTrue (p && q)
both_hold true q h k = k
both_hold false q h k = h

-- both are true where their conjunction is
pub both_true : (p q : Bool) → (p && q) ≡ true → (p ≡ true) × (q ≡ true)
both_true true q e = (refl, e)
both_true false q e = absurd cc

-- ---- one layer

one_value : (f : ℕ → ℕ) (a : Option ℕ) → IsSome a → IsSome (each f a)
one_value f None h = h
one_value f (Some x) h = refl

two_values : {C : Type 0} (f : ℕ → ℕ → C) (a b : Option ℕ) → IsSome a → IsSome b → IsSome (both (λ x y. Some (f x y)) a b)
two_values f None b h k = h
two_values f (Some x) None h k = k
two_values f (Some x) (Some y) h k = refl

-- an operator that no count makes stuck
abbrev pub is_total : CBin → Bool
is_total op.Shl = false
is_total op.Shr = false
is_total _ = true

bin_value : (f : CBin) (a b : Option ℕ) → is_total f ≡ true → IsSome a → IsSome b → IsSome (both (bin_of f) a b)
bin_value f None b t h k = h
bin_value f (Some x) None t h k = k
bin_value op.Add (Some x) (Some y) t h k = refl
bin_value op.Sub (Some x) (Some y) t h k = refl
bin_value op.Mul (Some x) (Some y) t h k = refl
bin_value op.And (Some x) (Some y) t h k = refl
bin_value op.Or (Some x) (Some y) t h k = refl
bin_value op.Xor (Some x) (Some y) t h k = refl
bin_value op.Shl (Some x) (Some y) t h k = absurd cc
bin_value op.Shr (Some x) (Some y) t h k = absurd cc

-- any operator has a value where the count is below 32
if_value : (b : Bool) (x : ℕ) → b ≡ true → IsSome (cond b (Some x) None)
if_value true x e = refl
if_value false x e = absurd cc

shift_value : (f : CBin) (a : Option ℕ) (k : ℕ) → nat_lt k 32 ≡ true → IsSome a → IsSome (both (bin_of f) a (Some k))
shift_value f None k l h = h
shift_value op.Add (Some x) k l h = refl
shift_value op.Sub (Some x) k l h = refl
shift_value op.Mul (Some x) k l h = refl
shift_value op.And (Some x) k l h = refl
shift_value op.Or (Some x) k l h = refl
shift_value op.Xor (Some x) k l h = refl
shift_value op.Shl (Some x) k l h = if_value (nat_lt k 32) (low_part 32 (x * 2 ^ k)) l
shift_value op.Shr (Some x) k l h = if_value (nat_lt k 32) (x / 2 ^ k) l

pick_value : (t : Option Bool) (a b : Option ℕ) → IsSome t → IsSome a → IsSome b → IsSome (picked t a b)
pick_value None a b h k l = h
pick_value (Some true) a b h k l = k
pick_value (Some false) a b h k l = l

max_two : (a b d : ℕ) → a ≤ d → b ≤ d → max a b + 1 ≤ d + 1
max_two a b d h k = omega arith

max_three : (a b c d : ℕ) → a ≤ d → b ≤ d → c ≤ d → max a (max b c) + 1 ≤ d + 1
max_three a b c d h k l = omega arith

one_more : (a d : ℕ) → a ≤ d → a + 1 ≤ d + 1
one_more a d h = omega arith

pub num_sound : (n : ℕ) → n < 2 ^ 32 → IsSound 1 (num n)
num_sound n l =
    let t : nat_lt n (2 ^ 32) ≡ true = grind (arith, nat_tests) in
    record { within = record { deep = simp word_depth_layer (lit≤ tt); names = simp word_names_layer t }; gives = λ v. simp word_layer refl }

pub name_sound : (n : Name) → is_flow_name n ≡ true → IsSound 1 (named n)
name_sound n t = record { within = record { deep = simp word_depth_layer (lit≤ tt); names = simp word_names_layer t }; gives = λ v. simp word_layer refl }

pub deeper_sound : (d k : ℕ) (e : CExpr) → d ≤ k → IsSound d e → IsSound k e
deeper_sound d k e l h = record { within = deeper d k e l h.within; gives = h.gives }

pub bin_sound : (d : ℕ) (f : CBin) (a b : CExpr) → is_total f ≡ true → IsSound d a → IsSound d b → IsSound (d + 1) (bin f a b)
bin_sound d f a b t h k = record {
  within = record {
    deep = simp word_depth_layer (max_two (word_depth a) (word_depth b) d h.within.deep k.within.deep);
    names = simp word_names_layer (both_hold (has_flow_names a) (has_flow_names b) h.within.names k.within.names);
  };
  gives = λ v. simp word_layer (bin_value f (word_of a v) (word_of b v) t (h.gives v) (k.gives v));
}

pub shift_sound : (d : ℕ) (f : CBin) (a : CExpr) (k : ℕ) → 1 ≤ d → nat_lt k 32 ≡ true → IsSound d a → IsSound (d + 1) (bin f a (num k))
shift_sound d f a k l t h =
    let small : k < 2 ^ 32 = grind (arith, nat_tests) in
    let n = deeper_sound 1 d (num k) l (num_sound k small) in
    record {
      within = record {
        deep = simp word_depth_layer (max_two (word_depth a) 1 d h.within.deep l);
        names = simp word_names_layer (both_hold (has_flow_names a) (nat_lt k (2 ^ 32)) h.within.names (grind (arith, nat_tests)));
      };
      gives = λ v. simp word_layer (shift_value f (word_of a v) k t (h.gives v));
    }

pub fn1_sound : (d : ℕ) (f : CFn1) (a : CExpr) → IsSound d a → IsSound (d + 1) (fn1 f a)
fn1_sound d f a h = record {
  within = record { deep = simp word_depth_layer (one_more (word_depth a) d h.within.deep); names = simp word_names_layer h.within.names };
  gives = λ v. simp word_layer (one_value (fn1_of f) (word_of a v) (h.gives v));
}

pub fn2_sound : (d : ℕ) (f : CFn2) (a b : CExpr) → IsSound d a → IsSound d b → IsSound (d + 1) (fn2 f a b)
fn2_sound d f a b h k = record {
  within = record {
    deep = simp word_depth_layer (max_two (word_depth a) (word_depth b) d h.within.deep k.within.deep);
    names = simp word_names_layer (both_hold (has_flow_names a) (has_flow_names b) h.within.names k.within.names);
  };
  gives = λ v. simp word_layer (two_values (fn2_of f) (word_of a v) (word_of b v) (h.gives v) (k.gives v));
}

pub not_sound : (d : ℕ) (a : CExpr) → IsSound d a → IsSound (d + 1) (word_not a)
not_sound d a h = record {
  within = record { deep = simp word_depth_layer (one_more (word_depth a) d h.within.deep); names = simp word_names_layer h.within.names };
  gives = λ v. simp word_layer (one_value (λ x. 2 ^ 32 - 1 - x) (word_of a v) (h.gives v));
}

pub pick_sound : (d : ℕ) (t : CCond) (a b : CExpr) → IsSoundCond d t → IsSound d a → IsSound d b → IsSound (d + 1) (pick t a b)
pick_sound d t a b h k l = record {
  within = record {
    deep = simp word_depth_layer (max_three (cond_depth t) (word_depth a) (word_depth b) d h.within.deep k.within.deep l.within.deep);
    names = simp word_names_layer (both_hold (cond_has_flow_names t) _ h.within.names (both_hold (has_flow_names a) (has_flow_names b) k.within.names l.within.names));
  };
  gives = λ v. simp word_layer (pick_value (truth_of t v) (word_of a v) (word_of b v) (h.gives v) (k.gives v) (l.gives v));
}

pub cmp_sound : (d : ℕ) (f : CCmp) (a b : CExpr) → IsSound d a → IsSound d b → IsSoundCond (d + 1) (cmp f a b)
cmp_sound d f a b h k = record {
  within = record {
    deep = simp cond_depth_layer (max_two (word_depth a) (word_depth b) d h.within.deep k.within.deep);
    names = simp cond_names_layer (both_hold (has_flow_names a) (has_flow_names b) h.within.names k.within.names);
  };
  gives = λ v. simp truth_layer (two_values (cmp_of f) (word_of a v) (word_of b v) (h.gives v) (k.gives v));
}

-- flags of which nothing is known, for which any words stand
abbrev no_flags : Flags
no_flags = record { c = Undefined; p = Undefined; z = Undefined; s = Undefined; o = Undefined }

no_flags_stand : (v : Names) → FlagsStand no_flags v
no_flags_stand v = record { c = tt; p = tt; z = tt; s = tt; o = tt }

pub cond_sound : (n : ℕ) → IsSoundCond 3 (cond_words n)
cond_sound n = record {
  within = cond_within n;
  gives = λ v. let t = (cond_truth n).truth v no_flags (no_flags_stand v) in is_some_of (truth_of (cond_words n) v) t.0 t.1;
}

-- ---- words of operands

-- a word that is fit is sound
fit_sound : (d : ℕ) (e : CExpr) → IsFit d e → IsSound d e
fit_sound d e h = record {
  within = record { deep = h.deep; names = h.names };
  gives = λ v. let x = safe_value e v h.safe in is_some_of (word_of e v) x.0 x.1;
}

pub reg_sound : (n : ℕ) → is_register n ≡ true → IsSound 1 (reg n)
reg_sound n t = name_sound (name.Reg n) t

pub temp_sound : (n : ℕ) → nat_lt n (2 ^ 31) ≡ true → IsSound 1 (temp n)
temp_sound n t = name_sound (name.T n) t

-- the register that has the second byte
pub high_register : (n : ℕ) → is_register n ≡ true → is_register (n - 4) ≡ true
high_register n t = grind (arith, nat_tests)

pub and_mask_sound : (d : ℕ) (e : CExpr) (k : ℕ) → 1 ≤ d → k < 2 ^ 32 → IsSound d e → IsSound (d + 1) (bin op.And e (num k))
and_mask_sound d e k l s h = bin_sound d op.And e (num k) refl h (deeper_sound 1 d (num k) l (num_sound k s))

-- a word whose low part is an operand, its value, and the address of memory
pub raw_sound : (size : Size) (p : Operand) → is_formed_operand p ≡ true → IsSound 2 (raw_word size p)
raw_sound size p t = fit_sound 2 (raw_word size p) (raw_fit size p t)

pub value_sound : (size : Size) (p : Operand) → is_formed_operand p ≡ true → IsSound 3 (value_word size p)
value_sound size p t = fit_sound 3 (value_word size p) (value_fit size p t)

pub address_sound : (m : Mem) → is_formed_mem m ≡ true → IsSound 5 (address_word m)
address_sound m t = fit_sound 5 (address_word m) (address_fit m t)

-- ---- words of operations

-- each of the six words
pub record AreSoundWords (depth : ℕ) (l : AluLift) : Type 0 where
  pub result : IsSound depth l.result
  pub c : IsSound depth l.c
  pub p : IsSound depth l.p
  pub z : IsSound depth l.z
  pub s : IsSound depth l.s
  pub o : IsSound depth l.o

size_of_bits : (size : Size) → IsSize (bits_of size)
size_of_bits B = inl refl
size_of_bits H = inr (inl refl)
size_of_bits W = inr (inr refl)

pub alu_sound : (f : AluOp) (size : Size) (a b : CExpr) → IsSound 2 a → IsSound 2 b → AreSoundWords 10 (alu_words f (bits_of size) a b)
alu_sound f size a b h k = record {
  result = record { within = w.result; gives = λ v. (given v).result };
  c = record { within = w.c; gives = λ v. (given v).c };
  p = record { within = w.p; gives = λ v. (given v).p };
  z = record { within = w.z; gives = λ v. (given v).z };
  s = record { within = w.s; gives = λ v. (given v).s };
  o = record { within = w.o; gives = λ v. (given v).o };
}
  where
    w : AreWithin 10 (alu_words f (bits_of size) a b)
    w = alu_within f (bits_of size) a b 2 (size_of_bits size) (lit≤ tt) h.within k.within

    given : (v : Names) → AllGive v (alu_words f (bits_of size) a b)
    given v =
        let x = some_value (word_of a v) (h.gives v) in
        let y = some_value (word_of b v) (k.gives v) in
        (alu_lifts f (bits_of size) a b (size_of_bits size)).never_stuck v x.0 y.0 x.1 y.1
