use Rattle.std.proofs.Common.{◌≡◌, ◌≤◌, ◌<◌, ◌+◌, ◌*◌, ◌-◌, ◌^◌, ◌++◌, ℕ, List, [], ◌∷◌, length, sym, ap, ◌∙◌, arith}
use Rattle.std.proofs.lemmas.List.{append_assoc, length-append}
use Rattle.elf_image.specs.declared.range.Range.{Range}
use Rattle.elf_image.specs.Range.{range}
use Rattle.generators.specs.Code.{function_code, function_table, piece, pieces, ranges, start}
use Rattle.generators.proofs.Lengths.{pieces_short, code_short}
use Rattle.generators.proofs.Next.{next_pieces, next_ranges}
use Rattle.generators.proofs.drill.drill.Goals as goal

-- the bytes so far are few
few : (k n at : ℕ) (code more : List ℕ) → k < n → n ≤ 4000 → code ≡ pieces k → more ≡ code ++ function_code k at → length more < 2 ^ 30
few k n at code more l m e f =
    let a : length (pieces k) ≤ 100 * k = pieces_short k in
    let b : length (function_code k at) ≤ 88 = code_short k at in
    let g : length more ≡ length (pieces k) + length (function_code k at) = ap length f ∙ length-append code (function_code k at) ∙ ap (λ c. length c + length (function_code k at)) e in
    omega arith

-- one function more, which begins after n bytes
one_more : (k n : ℕ) (code more all : List ℕ) → code ≡ pieces k → n ≡ length code → more ≡ code ++ function_code k (start + n) → all ≡ more ++ function_table k (start + n)
    → all ≡ pieces (k + 1)
one_more k n code more all e l f g =
    g ∙ ap (λ m. m ++ function_table k (start + n)) f ∙ append_assoc code (function_code k (start + n)) (function_table k (start + n))
    ∙ ap (λ j. code ++ piece k (start + j)) l ∙ ap (λ c. c ++ piece k (start + length c)) e ∙ sym (next_pieces k)

-- its size is what was added
added : (k n m at : ℕ) (code more : List ℕ) → n ≡ length code → more ≡ code ++ function_code k at → m ≡ length more → start + m - (start + n) ≡ length (function_code k at)
added k n m at code more l f g =
    let e : length more ≡ length code + length (function_code k at) = ap length f ∙ length-append code (function_code k at) in
    omega arith

one_range : (k n m : ℕ) (code more : List ℕ) (old new : List Range) (r : Range) → code ≡ pieces k → n ≡ length code → more ≡ code ++ function_code k (start + n) → m ≡ length more
    → old ≡ ranges k → r ≡ range (start + n) (start + m - (start + n)) → new ≡ old ++ r ∷ [] → new ≡ ranges (k + 1)
one_range k n m code more old new r e l f g h i j =
    let size : start + m - (start + n) ≡ length (function_code k (start + n)) = added k n m (start + n) code more l f g in
    let at : n ≡ length (pieces k) = l ∙ ap length e in
    j ∙ ap (λ xs. xs ++ r ∷ []) h ∙ ap (λ x. ranges k ++ x ∷ []) (i ∙ ap (range (start + n)) size)
    ∙ ap (λ a. ranges k ++ range (start + a) (length (function_code k (start + a))) ∷ []) at ∙ sym (next_ranges k)

pub overflow_cast-len : goal.overflow_cast-len
overflow_cast-len c =
    let h : length c.push_function.new.bytes.items < 2 ^ 30 = few c.loop-k.k c.args.n (start + c.len.result) c.loop-k.code.items c.push_function.new.bytes.items c.loop-k-test.true c.requires.few c.loop-k.invariant.0 c.in_ok-push_function.ensures in
    omega (arith, c.len-in-loop-k.ensures, c.push_function.new.bytes.ok.0)

pub overflow_add-len : goal.overflow_add-len
overflow_add-len c =
    let h : length c.push_function.new.bytes.items < 2 ^ 30 = few c.loop-k.k c.args.n (start + c.len.result) c.loop-k.code.items c.push_function.new.bytes.items c.loop-k-test.true c.requires.few c.loop-k.invariant.0 c.in_ok-push_function.ensures in
    omega (arith, c.len-in-loop-k.ensures, c.push_function.new.bytes.ok.0)

pub loop-k-preserved : goal.loop-k-preserved
loop-k-preserved c = (
  one_more c.loop-k.k c.len.result c.loop-k.code.items c.push_function.new.bytes.items c.push_rest.new.bytes.items c.loop-k.invariant.0 (c.len.ensures ∙ c.loop-k.code.ok.0) c.in_ok-push_function.ensures c.in_ok-push_rest.ensures,
  one_range c.loop-k.k c.len.result c.len-in-loop-k.result c.loop-k.code.items c.push_function.new.bytes.items c.loop-k.ranges.items c.push.new.self.items c.new.result c.loop-k.invariant.0
      (c.len.ensures ∙ c.loop-k.code.ok.0) c.in_ok-push_function.ensures (c.len-in-loop-k.ensures ∙ c.push_function.new.bytes.ok.0) c.loop-k.invariant.1 c.new.ensures c.in_ok-push.ensures.items,
)
