-- What a decoder's answer says of the bytes of a code.
use Rattle.std.proofs.Common.{◌≡◌, ℕ, ◌≤◌, List, ◌++◌, length, take, drop, sym, ap, subst, ◌∙◌, arith, length-append}
use Rattle.std.proofs.lemmas.List.{take-append-drop, length-take}
use Rattle.std.proofs.Math.Seq.{take-length}
use Rattle.x86_inst.specs.declared.Inst.{Inst}
use Rattle.x86_inst.specs.Spelling.{Spells, OneReading}
use Rattle.x86_decode.specs.declared.decoder.Decoded.{Decoded}
use Rattle.x86_decode.specs.declared.decoder.Decoded.TheVariants as decoded
use Rattle.x86_decode.specs.Decodes.{NoneBegins, Decodes}

whole : (x : List ℕ) → take (length x) x ≡ x
whole x = take-length x

-- a whole input that a front of spells j, of the length of the whole
pub of_whole : (x : List ℕ) (n : ℕ) (j : Inst) → n ≡ length x → Spells (take n x) j → Spells x j
of_whole x n j e h = subst (λ (l : List ℕ). Spells l j) (ap (λ k. take k x) e ∙ whole x) h

-- where x is a spelling of i, a front that spells j is all of x, and j is i
pub same_reading : OneReading → (x : List ℕ) (n : ℕ) (i j : Inst) → n ≤ length x → Spells x i → Spells (take n x) j → (n ≡ length x) × (j ≡ i)
same_reading one x n i j le h k =
    let t : x ≡ take n x ++ drop n x = sym (take-append-drop n x) in
    let r = one (take n x) (drop n x) j i k (subst (λ (l : List ℕ). Spells l i) t h) in
    (omega (arith, ap length t, ap length r.0, length-take n x, length-append (take n x) (drop n x)), r.1)

-- a spelling begins with one
pub not_none : (x : List ℕ) (i : Inst) → Spells x i → NoneBegins x → ⊥
not_none x i h none = none (length x) i (subst (λ (l : List ℕ). Spells l i) (sym (whole x)) h)

-- what a decoder answers to a spelling
pub read_back : OneReading → (x : List ℕ) (i : Inst) (len : ℕ) → length x ≡ len → Spells x i → (d : Decoded) → Decodes x d → d ≡ decoded.Inst i len
read_back one x i len e h (decoded.Inst j n) d =
    let r = same_reading one x n i j d.0 h d.1 in
    ap (λ (z : Inst). decoded.Inst z n) r.1 ∙ ap (λ (m : ℕ). decoded.Inst i m) (r.0 ∙ e)
read_back one x i len e h decoded.Cut d = absurd (not_none x i h d.0)
read_back one x i len e h decoded.None d = absurd (not_none x i h d.0)
