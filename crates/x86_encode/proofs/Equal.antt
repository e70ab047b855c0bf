-- Instructions are the same where `==` says so, and only there.
use Rattle.std.proofs.Common.{◌≡◌, ℕ, Bool, true, false, List, [], ◌∷◌, Option, Some, None, refl, ap, inl, inr}
use Rattle.std.specs.Prelude.{◌&&◌, nat_eq}
use Rattle.std.specs.Option.{option_eq}
use Rattle.std.proofs.lemmas.Bool.{eqb-true, eq-eqb}
use mathlib.Core.Bool.{beq}
use denote.Enum.Bare.{same_true, true_same}
use denote.Enum.Compared.{Each, by}
use denote.Enum.Declared.{Choice, intoss}
use denote.Struct.Field.{Field}
use Rattle.x86_inst.specs.declared.Size.{Size}
use Rattle.x86_inst.specs.contracts.SizePartialEq.TheImpl as size_eq
use Rattle.x86_inst.specs.contracts.Size as size_is
use Rattle.x86_inst.specs.declared.Seg.{Seg}
use Rattle.x86_inst.specs.contracts.SegPartialEq.TheImpl as seg_eq
use Rattle.x86_inst.specs.contracts.Seg as seg_is
use Rattle.x86_inst.specs.declared.AluOp.{AluOp}
use Rattle.x86_inst.specs.contracts.AluOpPartialEq.TheImpl as aluop_eq
use Rattle.x86_inst.specs.contracts.AluOp as aluop_is
use Rattle.x86_inst.specs.declared.ShiftOp.{ShiftOp}
use Rattle.x86_inst.specs.contracts.ShiftOpPartialEq.TheImpl as shiftop_eq
use Rattle.x86_inst.specs.contracts.ShiftOp as shiftop_is
use Rattle.x86_inst.specs.declared.BitOp.{BitOp}
use Rattle.x86_inst.specs.contracts.BitOpPartialEq.TheImpl as bitop_eq
use Rattle.x86_inst.specs.contracts.BitOp as bitop_is
use Rattle.x86_inst.specs.declared.StrOp.{StrOp}
use Rattle.x86_inst.specs.contracts.StrOpPartialEq.TheImpl as strop_eq
use Rattle.x86_inst.specs.contracts.StrOp as strop_is
use Rattle.x86_inst.specs.declared.Rep.{Rep}
use Rattle.x86_inst.specs.contracts.RepPartialEq.TheImpl as rep_eq
use Rattle.x86_inst.specs.contracts.Rep as rep_is
use Rattle.x86_inst.specs.declared.CarryOp.{CarryOp}
use Rattle.x86_inst.specs.contracts.CarryOpPartialEq.TheImpl as carryop_eq
use Rattle.x86_inst.specs.contracts.CarryOp as carryop_is
use Rattle.x86_inst.specs.declared.Cond.{Cond}
use Rattle.x86_inst.specs.contracts.CondPartialEq.TheImpl as cond_eq
use Rattle.x86_inst.specs.declared.Count.{Count}
use Rattle.x86_inst.specs.contracts.CountPartialEq.TheImpl as count_eq
use Rattle.x86_inst.specs.contracts.Count as count_is
use Rattle.x86_inst.specs.declared.Mem.{Mem}
use Rattle.x86_inst.specs.contracts.MemPartialEq.TheImpl as mem_eq
use Rattle.x86_inst.specs.declared.Operand.{Operand}
use Rattle.x86_inst.specs.contracts.OperandPartialEq.TheImpl as operand_eq
use Rattle.x86_inst.specs.contracts.Operand as operand_is
use Rattle.x86_inst.specs.declared.Inst.{Inst}
use Rattle.x86_inst.specs.contracts.InstPartialEq.TheImpl as inst_eq
use Rattle.x86_inst.specs.contracts.Inst as inst_is
use Rattle.x86_encode.proofs.Flags.{and_true, true_and}

-- the test f tells which values are the same
record Tells {A : Type 0} (f : A → A → Bool) : Type 0 where
  same : (x y : A) → f x y ≡ true → x ≡ y
  equal : (x : A) → f x x ≡ true

-- ---- numbers, flags and options

numbers : Tells nat_eq
numbers = record { same = eqb-true; equal = λ x. eq-eqb x x refl }

same_bool : (a b : Bool) → beq a b ≡ true → a ≡ b
same_bool true true e = refl
same_bool true false e = absurd cc
same_bool false true e = absurd cc
same_bool false false e = refl

equal_bool : (a : Bool) → beq a a ≡ true
equal_bool true = refl
equal_bool false = refl

flags : Tells beq
flags = record { same = same_bool; equal = equal_bool }

same_option : (a b : Option ℕ) → option_eq nat_eq a b ≡ true → a ≡ b
same_option None None e = refl
same_option None (Some y) e = absurd cc
same_option (Some x) None e = absurd cc
same_option (Some x) (Some y) e = ap (λ (n : ℕ). Some n) (eqb-true x y e)

equal_option : (a : Option ℕ) → option_eq nat_eq a a ≡ true
equal_option None = refl
equal_option (Some x) = eq-eqb x x refl

options : Tells (option_eq nat_eq)
options = record { same = same_option; equal = equal_option }

-- ---- the fields of a variant, one after the other

abbrev both : {A B : Type 0} → (A → A → Bool) → (B → B → Bool) → A × B → A × B → Bool
both f g x y = f x.0 y.0 && g x.1 y.1

abbrev last : {A : Type 0} → (A → A → Bool) → A × Unit {0} → A × Unit {0} → Bool
last f x y = f x.0 y.0

abbrev nothing : Unit {0} → Unit {0} → Bool
nothing x y = true

tells_both : {A B : Type 0} (f : A → A → Bool) (g : B → B → Bool) → Tells f → Tells g → Tells (both f g)
tells_both f g h k = record {
  same = λ x y e.
      let t = and_true (f x.0 y.0) (g x.1 y.1) e in
      let p = h.same x.0 y.0 t.0 in
      let q = k.same x.1 y.1 t.1 in
      λ i. (p i, q i);
  equal = λ x. true_and (f x.0 x.0) (g x.1 x.1) (h.equal x.0) (k.equal x.1);
}

tells_last : {A : Type 0} (f : A → A → Bool) → Tells f → Tells (last f)
tells_last f h = record { same = λ x y e. let p = h.same x.0 y.0 e in λ i. (p i, tt); equal = λ x. h.equal x.0 }

tells_nothing : Tells nothing
tells_nothing = record { same = λ x y e. refl; equal = λ x. refl }

-- ---- a choice of variants

abbrev AllTell : (Fss : List (List Field)) → Each Bool Fss → Type 0
AllTell [] es = Unit {0}
AllTell (Fs ∷ Fss) es = Tells es.0 × AllTell Fss es.1

by_same : (Fss : List (List Field)) (es : Each Bool Fss) → AllTell Fss es → (c d : Choice Fss) → by false false Fss es c d ≡ true → c ≡ d
by_same [] es h c d e = absurd c
by_same (Fs ∷ Fss) es h (inl x) (inl y) e = ap inl (h.0.same x y e)
by_same (Fs ∷ Fss) es h (inl x) (inr y) e = absurd cc
by_same (Fs ∷ Fss) es h (inr x) (inl y) e = absurd cc
by_same (Fs ∷ Fss) es h (inr x) (inr y) e = ap inr (by_same Fss es.1 h.1 x y e)

by_equal : (Fss : List (List Field)) (es : Each Bool Fss) → AllTell Fss es → (c : Choice Fss) → by false false Fss es c c ≡ true
by_equal [] es h c = absurd c
by_equal (Fs ∷ Fss) es h (inl x) = h.0.equal x
by_equal (Fs ∷ Fss) es h (inr x) = by_equal Fss es.1 h.1 x

-- ---- the types, from the parts up

abbrev eq_size : Size → Size → Bool
eq_size = size_eq.ghosts.eq

abbrev eq_seg : Seg → Seg → Bool
eq_seg = seg_eq.ghosts.eq

abbrev eq_aluop : AluOp → AluOp → Bool
eq_aluop = aluop_eq.ghosts.eq

abbrev eq_shiftop : ShiftOp → ShiftOp → Bool
eq_shiftop = shiftop_eq.ghosts.eq

abbrev eq_bitop : BitOp → BitOp → Bool
eq_bitop = bitop_eq.ghosts.eq

abbrev eq_strop : StrOp → StrOp → Bool
eq_strop = strop_eq.ghosts.eq

abbrev eq_rep : Rep → Rep → Bool
eq_rep = rep_eq.ghosts.eq

abbrev eq_carryop : CarryOp → CarryOp → Bool
eq_carryop = carryop_eq.ghosts.eq

abbrev eq_cond : Cond → Cond → Bool
eq_cond = cond_eq.ghosts.eq

abbrev eq_count : Count → Count → Bool
eq_count = count_eq.ghosts.eq

abbrev eq_mem : Mem → Mem → Bool
eq_mem = mem_eq.ghosts.eq

abbrev eq_operand : Operand → Operand → Bool
eq_operand = operand_eq.ghosts.eq

abbrev pub eq_inst : Inst → Inst → Bool
eq_inst = inst_eq.ghosts.eq

tells_size : Tells eq_size
tells_size = record { same = same_true size_is.the_type tt; equal = λ x. true_same size_is.the_type x x refl }

tells_seg : Tells eq_seg
tells_seg = record { same = same_true seg_is.the_type tt; equal = λ x. true_same seg_is.the_type x x refl }

tells_aluop : Tells eq_aluop
tells_aluop = record { same = same_true aluop_is.the_type tt; equal = λ x. true_same aluop_is.the_type x x refl }

tells_shiftop : Tells eq_shiftop
tells_shiftop = record { same = same_true shiftop_is.the_type tt; equal = λ x. true_same shiftop_is.the_type x x refl }

tells_bitop : Tells eq_bitop
tells_bitop = record { same = same_true bitop_is.the_type tt; equal = λ x. true_same bitop_is.the_type x x refl }

tells_strop : Tells eq_strop
tells_strop = record { same = same_true strop_is.the_type tt; equal = λ x. true_same strop_is.the_type x x refl }

tells_rep : Tells eq_rep
tells_rep = record { same = same_true rep_is.the_type tt; equal = λ x. true_same rep_is.the_type x x refl }

tells_carryop : Tells eq_carryop
tells_carryop = record { same = same_true carryop_is.the_type tt; equal = λ x. true_same carryop_is.the_type x x refl }

tells_cond : Tells eq_cond
tells_cond = record { same = λ x y e. let k = eqb-true x.0 y.0 e in ap (λ (n : ℕ). record { 0 = n }) k; equal = λ x. eq-eqb x.0 x.0 refl }

abbrev each_count : Each Bool count_is.the_type.parts
each_count = (
  nothing,
  (
    last nat_eq,
    (
      nothing,
      tt,
    ),
  ),
)

all_count : AllTell count_is.the_type.parts each_count
all_count = (
  tells_nothing,
  (
    tells_last _ numbers,
    (
      tells_nothing,
      tt,
    ),
  ),
)

same_count : (i j : Count) → eq_count i j ≡ true → i ≡ j
same_count i j e = count_is.the_type.to_one i j (ap (intoss count_is.the_type.parts) (by_same count_is.the_type.parts each_count all_count (count_is.as_values i) (count_is.as_values j) e))

equal_count : (i : Count) → eq_count i i ≡ true
equal_count i = by_equal count_is.the_type.parts each_count all_count (count_is.as_values i)

tells_count : Tells eq_count
tells_count = record { same = same_count; equal = equal_count }

same_mem : (i j : Mem) → eq_mem i j ≡ true → i ≡ j
same_mem i j e =
    let a = and_true _ _ e in
    let b = and_true _ _ a.1 in
    let c = and_true _ _ b.1 in
    let d = and_true _ _ c.1 in
    let base = same_option i.base j.base a.0 in
    let index = same_option i.index j.index b.0 in
    let scale = eqb-true i.scale j.scale c.0 in
    let disp = eqb-true i.disp j.disp d.0 in
    let seg = tells_seg.same i.seg j.seg d.1 in
    λ k. record { base = base k; index = index k; scale = scale k; disp = disp k; seg = seg k }

equal_mem : (i : Mem) → eq_mem i i ≡ true
equal_mem i =
    true_and _ _ (equal_option i.base) (true_and _ _ (equal_option i.index)
    (true_and _ _ (eq-eqb i.scale i.scale refl) (true_and _ _ (eq-eqb i.disp i.disp refl) (tells_seg.equal i.seg))))

tells_mem : Tells eq_mem
tells_mem = record { same = same_mem; equal = equal_mem }

abbrev each_operand : Each Bool operand_is.the_type.parts
each_operand = (
  last nat_eq,
  (
    last eq_mem,
    (
      last nat_eq,
      tt,
    ),
  ),
)

all_operand : AllTell operand_is.the_type.parts each_operand
all_operand = (
  tells_last _ numbers,
  (
    tells_last _ tells_mem,
    (
      tells_last _ numbers,
      tt,
    ),
  ),
)

same_operand : (i j : Operand) → eq_operand i j ≡ true → i ≡ j
same_operand i j e = operand_is.the_type.to_one i j (ap (intoss operand_is.the_type.parts) (by_same operand_is.the_type.parts each_operand all_operand (operand_is.as_values i) (operand_is.as_values j) e))

equal_operand : (i : Operand) → eq_operand i i ≡ true
equal_operand i = by_equal operand_is.the_type.parts each_operand all_operand (operand_is.as_values i)

tells_operand : Tells eq_operand
tells_operand = record { same = same_operand; equal = equal_operand }

abbrev each_inst : Each Bool inst_is.the_type.parts
each_inst = (
  both eq_aluop (both eq_size (both eq_operand (last eq_operand))),
  (
    both eq_size (last eq_operand),
    (
      both eq_size (last eq_operand),
      (
        last eq_operand,
        (
          last eq_operand,
          (
            both eq_size (both nat_eq (both eq_operand (last nat_eq))),
            (
              both eq_cond (last nat_eq),
              (
                both eq_size (both eq_operand (last eq_operand)),
                (
                  both eq_size (both eq_operand (last eq_operand)),
                  (
                    both eq_size (both eq_operand (last eq_operand)),
                    (
                      both eq_size (both nat_eq (last eq_mem)),
                      (
                        nothing,
                        (
                          last eq_size,
                          (
                            last eq_size,
                            (
                              both eq_strop (both eq_size (both eq_rep (last eq_seg))),
                              (
                                both eq_shiftop (both eq_size (both eq_operand (last eq_count))),
                                (
                                  last nat_eq,
                                  (
                                    nothing,
                                    (
                                      last nat_eq,
                                      (
                                        last nat_eq,
                                        (
                                          last nat_eq,
                                          (
                                            last nat_eq,
                                            (
                                              last nat_eq,
                                              (
                                                last eq_carryop,
                                                (
                                                  both eq_size (last eq_operand),
                                                  (
                                                    both eq_size (last eq_operand),
                                                    (
                                                      both eq_size (last eq_operand),
                                                      (
                                                        both eq_size (last eq_operand),
                                                        (
                                                          both eq_size (last eq_operand),
                                                          (
                                                            both eq_size (last eq_operand),
                                                            (
                                                              last eq_operand,
                                                              (
                                                                last eq_operand,
                                                                (
                                                                  both eq_cond (both eq_size (both nat_eq (last eq_operand))),
                                                                  (
                                                                    both eq_cond (last eq_operand),
                                                                    (
                                                                      both eq_bitop (both eq_size (both eq_operand (last eq_operand))),
                                                                      (
                                                                        both beq (both eq_operand (both nat_eq (last eq_count))),
                                                                        (
                                                                          both eq_size (both nat_eq (last eq_operand)),
                                                                          (
                                                                            both beq (both eq_size (both eq_size (both nat_eq (last eq_operand)))),
                                                                            (
                                                                              both beq (both eq_size (both nat_eq (both eq_operand (last beq)))),
                                                                              (
                                                                                last nat_eq,
                                                                                tt,
                                                                              ),
                                                                            ),
                                                                          ),
                                                                        ),
                                                                      ),
                                                                    ),
                                                                  ),
                                                                ),
                                                              ),
                                                            ),
                                                          ),
                                                        ),
                                                      ),
                                                    ),
                                                  ),
                                                ),
                                              ),
                                            ),
                                          ),
                                        ),
                                      ),
                                    ),
                                  ),
                                ),
                              ),
                            ),
                          ),
                        ),
                      ),
                    ),
                  ),
                ),
              ),
            ),
          ),
        ),
      ),
    ),
  ),
)

all_inst : AllTell inst_is.the_type.parts each_inst
all_inst = (
  tells_both _ _ tells_aluop (tells_both _ _ tells_size (tells_both _ _ tells_operand (tells_last _ tells_operand))),
  (
    tells_both _ _ tells_size (tells_last _ tells_operand),
    (
      tells_both _ _ tells_size (tells_last _ tells_operand),
      (
        tells_last _ tells_operand,
        (
          tells_last _ tells_operand,
          (
            tells_both _ _ tells_size (tells_both _ _ numbers (tells_both _ _ tells_operand (tells_last _ numbers))),
            (
              tells_both _ _ tells_cond (tells_last _ numbers),
              (
                tells_both _ _ tells_size (tells_both _ _ tells_operand (tells_last _ tells_operand)),
                (
                  tells_both _ _ tells_size (tells_both _ _ tells_operand (tells_last _ tells_operand)),
                  (
                    tells_both _ _ tells_size (tells_both _ _ tells_operand (tells_last _ tells_operand)),
                    (
                      tells_both _ _ tells_size (tells_both _ _ numbers (tells_last _ tells_mem)),
                      (
                        tells_nothing,
                        (
                          tells_last _ tells_size,
                          (
                            tells_last _ tells_size,
                            (
                              tells_both _ _ tells_strop (tells_both _ _ tells_size (tells_both _ _ tells_rep (tells_last _ tells_seg))),
                              (
                                tells_both _ _ tells_shiftop (tells_both _ _ tells_size (tells_both _ _ tells_operand (tells_last _ tells_count))),
                                (
                                  tells_last _ numbers,
                                  (
                                    tells_nothing,
                                    (
                                      tells_last _ numbers,
                                      (
                                        tells_last _ numbers,
                                        (
                                          tells_last _ numbers,
                                          (
                                            tells_last _ numbers,
                                            (
                                              tells_last _ numbers,
                                              (
                                                tells_last _ tells_carryop,
                                                (
                                                  tells_both _ _ tells_size (tells_last _ tells_operand),
                                                  (
                                                    tells_both _ _ tells_size (tells_last _ tells_operand),
                                                    (
                                                      tells_both _ _ tells_size (tells_last _ tells_operand),
                                                      (
                                                        tells_both _ _ tells_size (tells_last _ tells_operand),
                                                        (
                                                          tells_both _ _ tells_size (tells_last _ tells_operand),
                                                          (
                                                            tells_both _ _ tells_size (tells_last _ tells_operand),
                                                            (
                                                              tells_last _ tells_operand,
                                                              (
                                                                tells_last _ tells_operand,
                                                                (
                                                                  tells_both _ _ tells_cond (tells_both _ _ tells_size (tells_both _ _ numbers (tells_last _ tells_operand))),
                                                                  (
                                                                    tells_both _ _ tells_cond (tells_last _ tells_operand),
                                                                    (
                                                                      tells_both _ _ tells_bitop (tells_both _ _ tells_size (tells_both _ _ tells_operand (tells_last _ tells_operand))),
                                                                      (
                                                                        tells_both _ _ flags (tells_both _ _ tells_operand (tells_both _ _ numbers (tells_last _ tells_count))),
                                                                        (
                                                                          tells_both _ _ tells_size (tells_both _ _ numbers (tells_last _ tells_operand)),
                                                                          (
                                                                            tells_both _ _ flags (tells_both _ _ tells_size (tells_both _ _ tells_size (tells_both _ _ numbers (tells_last _ tells_operand)))),
                                                                            (
                                                                              tells_both _ _ flags (tells_both _ _ tells_size (tells_both _ _ numbers (tells_both _ _ tells_operand (tells_last _ flags)))),
                                                                              (
                                                                                tells_last _ numbers,
                                                                                tt,
                                                                              ),
                                                                            ),
                                                                          ),
                                                                        ),
                                                                      ),
                                                                    ),
                                                                  ),
                                                                ),
                                                              ),
                                                            ),
                                                          ),
                                                        ),
                                                      ),
                                                    ),
                                                  ),
                                                ),
                                              ),
                                            ),
                                          ),
                                        ),
                                      ),
                                    ),
                                  ),
                                ),
                              ),
                            ),
                          ),
                        ),
                      ),
                    ),
                  ),
                ),
              ),
            ),
          ),
        ),
      ),
    ),
  ),
)

pub same_inst : (i j : Inst) → eq_inst i j ≡ true → i ≡ j
same_inst i j e = inst_is.the_type.to_one i j (ap (intoss inst_is.the_type.parts) (by_same inst_is.the_type.parts each_inst all_inst (inst_is.as_values i) (inst_is.as_values j) e))

pub equal_inst : (i : Inst) → eq_inst i i ≡ true
equal_inst i = by_equal inst_is.the_type.parts each_inst all_inst (inst_is.as_values i)

tells_inst : Tells eq_inst
tells_inst = record { same = same_inst; equal = equal_inst }
