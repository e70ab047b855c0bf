-- How long the pieces of a drill are.
use Rattle.std.proofs.Common.{◌≡◌, ℕ, zero, suc, ◌+◌, ◌*◌, ◌/◌, ◌%◌, ◌≤◌, Bool, true, false, List, [], ◌∷◌, ◌++◌, length, refl, ◌∙◌, arith, lit≤}
use Rattle.std.specs.Prelude.{◌==◌, if◌then◌else◌}
use Rattle.std.proofs.lemmas.List.{length-append}
use Rattle.generators.specs.Code.{times, rung, ladder_end, nest, nest_end, nest_ends, ladder, piece, pieces, function_code, function_table, table, start}

-- one of two is no longer than a bound for both
either : (b : Bool) (x y : List ℕ) (k : ℕ) → length x ≤ k → length y ≤ k → length (if b then x else y) ≤ k
either true x y k h g = h
either false x y k h g = g

times_long : (n : ℕ) (bytes : List ℕ) → length (times n bytes) ≡ n * length bytes
times_long zero bytes = omega arith
times_long (suc n) bytes = let h : length (times n bytes) ≡ n * length bytes = times_long n bytes in length-append (times n bytes) bytes ∙ omega arith

ends_long : (d : ℕ) → length (nest_ends d) ≡ 8 * d
ends_long zero = omega arith
ends_long (suc d) =
    let h : length (nest_ends d) ≡ 8 * d = ends_long d in
    let g : length (nest_end (suc d)) ≡ 8 = refl in
    length-append (nest_ends d) (nest_end (suc d)) ∙ omega arith

pub nest_long : (d : ℕ) → length (nest d) ≡ 9 * d + 1
nest_long d =
    let a : length (times d (0x40 ∷ [])) ≡ d * 1 = times_long d (0x40 ∷ []) in
    let b : length (nest_ends d) ≡ 8 * d = ends_long d in
    let c : length (nest_ends d ++ 0xC3 ∷ []) ≡ length (nest_ends d) + 1 = length-append (nest_ends d) (0xC3 ∷ []) in
    length-append (times d (0x40 ∷ [])) (nest_ends d ++ 0xC3 ∷ []) ∙ omega arith

pub ladder_long : (d : ℕ) → length (ladder d) ≡ 15 * d + 8
ladder_long d = let a : length (times d rung) ≡ d * 15 = times_long d rung in length-append (times d rung) ladder_end ∙ omega arith

nest_short : (d : ℕ) → d ≤ 8 → length (nest d) ≤ 88
nest_short d l = let e : length (nest d) ≡ 9 * d + 1 = nest_long d in omega arith

ladder_short : (d : ℕ) → d ≤ 5 → length (ladder d) ≤ 88
ladder_short d l = let e : length (ladder d) ≡ 15 * d + 8 = ladder_long d in omega arith

pub code_short : (k at : ℕ) → length (function_code k at) ≤ 88
code_short k at =
    either (k % 8 == 0) _ _ 88 (lit≤ tt)
    (either (k % 8 == 1) _ _ 88 (lit≤ tt)
    (either (k % 8 == 2) _ _ 88 (lit≤ tt)
    (either (k % 8 == 3) _ _ 88 (lit≤ tt)
    (either (k % 8 == 4) _ _ 88 (nest_short (1 + k / 8 % 8) (omega arith))
    (either (k % 8 == 5) _ _ 88 (lit≤ tt)
    (either (k % 8 == 6) _ _ 88 (ladder_short (2 + k / 8 % 4) (omega arith)) (lit≤ tt)))))))

table_short : (k at : ℕ) → length (function_table k at) ≤ 12
table_short k at = either (k % 8 == 7) (table at) [] 12 (lit≤ tt) (lit≤ tt)

pub piece_short : (k at : ℕ) → length (piece k at) ≤ 100
piece_short k at =
    let a : length (function_code k at) ≤ 88 = code_short k at in
    let b : length (function_table k at) ≤ 12 = table_short k at in
    let e : length (piece k at) ≡ length (function_code k at) + length (function_table k at) = length-append (function_code k at) (function_table k at) in
    omega arith

pub pieces_short : (n : ℕ) → length (pieces n) ≤ 100 * n
pieces_short zero = omega arith
pieces_short (suc n) =
    let at = start + length (pieces n) in
    let h : length (pieces n) ≤ 100 * n = pieces_short n in
    let g : length (piece n at) ≤ 100 = piece_short n at in
    let e : length (pieces (suc n)) ≡ length (pieces n) + length (piece n at) = length-append (pieces n) (piece n at) in
    omega arith
