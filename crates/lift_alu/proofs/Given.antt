-- Where the words of both operands have values, none of the six words is stuck.
use Rattle.std.proofs.Common.{◌≡◌, ℕ, Bool, true, false, refl, sym, subst, Option, Some, None}
use Rattle.std.specs.Prelude.{IsSome}
use Rattle.dream_words.specs.declared.machine.Name.TheVariants.{Flag}
use Rattle.dream_words.specs.Words.{IsSize}
use Rattle.x86_inst.specs.declared.AluOp.{AluOp}
use Rattle.x86_inst.specs.declared.AluOp.TheVariants as op
use Rattle.run_parts.specs.World.{Names}
use Rattle.c_syntax.specs.declared.syntax.CBin.{CBin}
use Rattle.c_syntax.specs.declared.syntax.CBin.TheVariants.{Add, Sub, And, Or, Xor, Shr}
use Rattle.c_syntax.specs.declared.syntax.CCmp.{CCmp}
use Rattle.c_syntax.specs.declared.syntax.CCmp.TheVariants.{Eq, Ne, Lt}
use Rattle.c_syntax.specs.declared.syntax.CExpr.{CExpr}
use Rattle.c_syntax.specs.declared.syntax.CCond.{CCond}
use Rattle.c_syntax.specs.Value.{word_of, truth_of, each, both, picked}
use Rattle.c_syntax.specs.Words.{bin_of}
use Rattle.c_words.specs.Built.{num, name, bin, cmp, and, or, word_if}
use Rattle.c_words.proofs.Layers.{word_layer, truth_layer}
use Rattle.lift_alu.specs.Words.{low_word, top_word, even_word, zero_word, flag_set, below_word, below_with_carry_word, overflow_word, six_words, sum_words, difference_words, add_words, adc_words, sub_words, sbb_words, logic_words, part_words, alu_words}
use Rattle.lift_alu.specs.Lifts.{AllGive}
use Rattle.lift_alu.proofs.Sizes.{by_size}

-- ---- parts that are not stuck

each_gives : {A B : Type 0} (f : A → B) (o : Option A) → IsSome o → IsSome (each f o)
each_gives f (Some x) h = refl
each_gives f None h = h

both_give : {A B C : Type 0} (f : A → B → Option C) (o : Option A) (p : Option B) → ((x : A) (y : B) → IsSome (f x y)) → IsSome o → IsSome p → IsSome (both f o p)
both_give f (Some x) (Some y) t h k = t x y
both_give f None p t h k = h
both_give f (Some x) None t h k = k

one_gives : (f : ℕ → ℕ → Option ℕ) (n : ℕ) (o : Option ℕ) → ((x : ℕ) → IsSome (f x n)) → IsSome o → IsSome (both f o (Some n))
one_gives f n (Some x) t h = t x
one_gives f n None t h = h

picked_gives : {A : Type 0} (t : Option Bool) (o p : Option A) → IsSome t → IsSome o → IsSome p → IsSome (picked t o p)
picked_gives (Some true) o p s h k = h
picked_gives (Some false) o p s h k = k
picked_gives None o p s h k = s

module _ (v : Names) where
  -- ---- one layer

  abbrev Gives : CExpr → Type 0
  Gives e = IsSome (word_of e v)

  abbrev Decides : CCond → Type 0
  Decides t = IsSome (truth_of t v)

  num_gives : (n : ℕ) → Gives (num n)
  num_gives n = simp word_layer refl

  name_gives : (n : ℕ) → Gives (name (Flag n))
  name_gives n = simp word_layer refl

  bin_gives : (f : CBin) (a b : CExpr) → ((x y : ℕ) → IsSome (bin_of f x y)) → Gives a → Gives b → Gives (bin f a b)
  bin_gives f a b t h k = simp word_layer (both_give (bin_of f) (word_of a v) (word_of b v) t h k)

  even_gives : (a : CExpr) → Gives a → Gives (even_word a)
  even_gives a h = simp word_layer (each_gives _ (word_of a v) h)

  cmp_decides : (f : CCmp) (a b : CExpr) → Gives a → Gives b → Decides (cmp f a b)
  cmp_decides f a b h k = simp truth_layer (both_give _ (word_of a v) (word_of b v) (λ x y. refl) h k)

  and_decides : (t u : CCond) → Decides t → Decides u → Decides (and t u)
  and_decides t u h k = simp truth_layer (picked_gives (truth_of t v) (truth_of u v) (Some false) h k refl)

  or_decides : (t u : CCond) → Decides t → Decides u → Decides (or t u)
  or_decides t u h k = simp truth_layer (picked_gives (truth_of t v) (Some true) (truth_of u v) h refl k)

  word_if_gives : (t : CCond) → Decides t → Gives (word_if t)
  word_if_gives t h = simp word_layer (picked_gives (truth_of t v) (Some 1) (Some 0) h refl refl)

  -- ---- parts of operations

  low_gives : (bits : ℕ) (e : CExpr) → IsSize bits → Gives e → Gives (low_word bits e)
  low_gives bits e size h =
      by_size (λ n. Gives (low_word n e)) (bin_gives And e (num 255) (λ x y. refl) h (num_gives 255)) (bin_gives And e (num 65535) (λ x y. refl) h (num_gives 65535)) h bits size

  -- a shift by less than 32 isn't stuck
  shift_gives : (e : CExpr) (n : ℕ) → ((x : ℕ) → IsSome (bin_of Shr x n)) → Gives e → Gives (bin Shr e (num n))
  shift_gives e n t h = simp word_layer (one_gives (bin_of Shr) n (word_of e v) t h)

  top_gives : (bits : ℕ) (e : CExpr) → IsSize bits → Gives e → Gives (top_word bits e)
  top_gives bits e size h =
      by_size (λ n. Gives (top_word n e)) (shift_gives e 7 (λ x. refl) h) (shift_gives e 15 (λ x. refl) h) (shift_gives e 31 (λ x. refl) h) bits size

  zero_gives : (e : CExpr) → Gives e → Gives (zero_word e)
  zero_gives e h = word_if_gives (cmp Eq e (num 0)) (cmp_decides Eq e (num 0) h (num_gives 0))

  below_gives : (a b : CExpr) → Gives a → Gives b → Gives (below_word a b)
  below_gives a b h k = word_if_gives (cmp Lt a b) (cmp_decides Lt a b h k)

  below_with_carry_gives : (a b : CExpr) → Gives a → Gives b → Gives (below_with_carry_word a b)
  below_with_carry_gives a b h k =
      word_if_gives (or (cmp Lt a b) (and (cmp Eq a b) (flag_set 0)))
      (or_decides (cmp Lt a b) (and (cmp Eq a b) (flag_set 0)) (cmp_decides Lt a b h k)
      (and_decides (cmp Eq a b) (flag_set 0) (cmp_decides Eq a b h k) (cmp_decides Ne (name (Flag 0)) (num 0) (name_gives 0) (num_gives 0))))

  module _ (bits : ℕ) (size : IsSize bits) where
    overflow_gives : (a b c d : CExpr) → Gives a → Gives b → Gives c → Gives d → Gives (overflow_word bits a b c d)
    overflow_gives a b c d h i j k =
        top_gives bits (bin And (bin Xor a b) (bin Xor c d)) size
        (bin_gives And (bin Xor a b) (bin Xor c d) (λ x y. refl) (bin_gives Xor a b (λ x y. refl) h i) (bin_gives Xor c d (λ x y. refl) j k))

    six_give : (r c o : CExpr) → Gives r → Gives c → Gives o → AllGive v (six_words bits r c o)
    six_give r c o h i j = record { result = h; c = i; p = even_gives r h; z = zero_gives r h; s = top_gives bits r size h; o = j }

    -- ---- the operations

    module _ (a b : CExpr) (a_gives : Gives a) (b_gives : Gives b) where
      sum_gives : (r c : CExpr) → Gives r → Gives c → AllGive v (sum_words bits a b r c)
      sum_gives r c h k = six_give r c (overflow_word bits a r b r) h k (overflow_gives a r b r a_gives h b_gives h)

      difference_gives : (r c : CExpr) → Gives r → Gives c → AllGive v (difference_words bits a b r c)
      difference_gives r c h k = six_give r c (overflow_word bits a b a r) h k (overflow_gives a b a r a_gives b_gives a_gives h)

      -- an operator that is never stuck, alone and with the carry
      module _ (f : CBin) (total : (x y : ℕ) → IsSome (bin_of f x y)) where
        joined_gives : Gives (low_word bits (bin f a b))
        joined_gives = low_gives bits (bin f a b) size (bin_gives f a b total a_gives b_gives)

        joined_with_carry_gives : Gives (low_word bits (bin f (bin f a b) (name (Flag 0))))
        joined_with_carry_gives =
            low_gives bits (bin f (bin f a b) (name (Flag 0))) size (bin_gives f (bin f a b) (name (Flag 0)) total (bin_gives f a b total a_gives b_gives) (name_gives 0))

        logic_gives : AllGive v (logic_words f bits a b)
        logic_gives = six_give (bin f a b) (num 0) (num 0) (bin_gives f a b total a_gives b_gives) (num_gives 0) (num_gives 0)

      add_gives : AllGive v (add_words bits a b)
      add_gives =
          let h : Gives (low_word bits (bin Add a b)) = joined_gives Add (λ x y. refl) in
          sum_gives (low_word bits (bin Add a b)) (below_word (low_word bits (bin Add a b)) a) h (below_gives (low_word bits (bin Add a b)) a h a_gives)

      adc_gives : AllGive v (adc_words bits a b)
      adc_gives =
          let h : Gives (low_word bits (bin Add (bin Add a b) (name (Flag 0)))) = joined_with_carry_gives Add (λ x y. refl) in
          sum_gives (low_word bits (bin Add (bin Add a b) (name (Flag 0)))) (below_with_carry_word (low_word bits (bin Add (bin Add a b) (name (Flag 0)))) a) h
          (below_with_carry_gives (low_word bits (bin Add (bin Add a b) (name (Flag 0)))) a h a_gives)

      sub_gives : AllGive v (sub_words bits a b)
      sub_gives = difference_gives (low_word bits (bin Sub a b)) (below_word a b) (joined_gives Sub (λ x y. refl)) (below_gives a b a_gives b_gives)

      sbb_gives : AllGive v (sbb_words bits a b)
      sbb_gives =
          difference_gives (low_word bits (bin Sub (bin Sub a b) (name (Flag 0)))) (below_with_carry_word a b) (joined_with_carry_gives Sub (λ x y. refl)) (below_with_carry_gives a b a_gives b_gives)

      part_gives : (op : AluOp) → AllGive v (part_words op bits a b)
      part_gives op.Add = add_gives
      part_gives op.Or = logic_gives Or (λ x y. refl)
      part_gives op.Adc = adc_gives
      part_gives op.Sbb = sbb_gives
      part_gives op.And = logic_gives And (λ x y. refl)
      part_gives op.Sub = sub_gives
      part_gives op.Xor = logic_gives Xor (λ x y. refl)
      part_gives op.Cmp = sub_gives

    pub alu_gives : (op : AluOp) (a b : CExpr) (x y : ℕ) → word_of a v ≡ Some x → word_of b v ≡ Some y → AllGive v (alu_words op bits a b)
    alu_gives op a b x y h k =
        part_gives (low_word bits a) (low_word bits b) (low_gives bits a size (subst IsSome (sym h) refl)) (low_gives bits b size (subst IsSome (sym k) refl)) op
