-- A store changes a byte that must stay exactly where one of the bytes that it puts does.
use Rattle.std.proofs.Common.{◌≡◌, ℕ, zero, suc, ◌+◌, ◌-◌, ◌/◌, ◌%◌, ◌^◌, ◌<◌, ◌≤◌, ◌⊎◌, inl, inr, Bool, true, false, not, ◌||◌, ◌==◌, nat_lt, List, refl, sym, ap, subst, ◌∙◌, arith, add-zero}
use Rattle.std.specs.Prelude.{IsSome, is_some}
use Rattle.std.proofs.lemmas.Bool.{true≢false, cases_eq, eqb-false, ne_eqb, ltb-true, lt-ltb, and_parts, and_from, or_cases, or_left, or_right, not-true, not_from_false}
use Rattle.std.proofs.lemmas.Nat.{mod_below}
use Rattle.std.proofs.Common.{lit<}
use Rattle.elf_image.specs.declared.image.Segment.{Segment}
use Rattle.elf_image.specs.Image.{frozen_byte}
use Rattle.dream_words.specs.declared.machine.Width.{Width}
use Rattle.dream_words.specs.declared.machine.Width.TheVariants.{B, H, W}
use Rattle.dream_words.specs.Memory.{Mem, byte_at, with_byte, store, bytes_of}
use Rattle.dream_words.proofs.Memories.{byte_at-with_byte_same, byte_at-with_byte_other}
use Rattle.machine.specs.Code.{is_broken}
use Rattle.machine.specs.Held.{is_held, changes, store_changes}
use Rattle.machine.specs.Laws.{Breaks}
use Rattle.machine.proofs.Straying.{breaks, broken, unbroken}

same_if : (a b : Bool) → (a ≡ true → b ≡ true) → (b ≡ true → a ≡ true) → a ≡ b
same_if true b f g = sym (f refl)
same_if false true f g = g refl
same_if false false f g = refl

or_false : (a : Bool) → (a || false) ≡ a
or_false true = refl
or_false false = refl

or_assoc : (a b c : Bool) → ((a || b) || c) ≡ (a || (b || c))
or_assoc true b c = refl
or_assoc false b c = refl

-- ---- the return slot

slot_at : (s a : ℕ) → s < 2 ^ 32 → a < 2 ^ 32 → nat_lt ((a + (2 ^ 32 - s)) % 2 ^ 32) 4 ≡ true → (k : ℕ) × (k < 4) × ((s + k) % 2 ^ 32 ≡ a)
slot_at s a ls la h = ((a + (2 ^ 32 - s)) % 2 ^ 32, ltb-true _ _ h, omega (arith, ls, la))

at_slot : (s k : ℕ) → s < 2 ^ 32 → k < 4 → nat_lt (((s + k) % 2 ^ 32 + (2 ^ 32 - s)) % 2 ^ 32) 4 ≡ true
at_slot s k ls lk = lt-ltb _ _ (omega (arith, ls, lk))

-- ---- one byte

module _ (m : List Segment) (s : ℕ) (old cur : Mem) (a v : ℕ) (ls : s < 2 ^ 32) (la : a < 2 ^ 32) where
  held : is_held m s a ≡ true → (byte_at old a ≡ v → ⊥) → changes m s old a v ≡ true
  held h ne = and_from (is_held m s a) (not (byte_at old a == v)) h (not_from_false _ (ne_eqb (byte_at old a) v ne))

  -- a byte that is another after one is set was another before, or is the one that was set
  set_or_before : (q : ℕ) → (byte_at old q ≡ byte_at (with_byte cur a v) q → ⊥)
      → ((q ≡ a) × (byte_at old a ≡ v → ⊥)) ⊎ (byte_at old q ≡ byte_at cur q → ⊥)
  set_or_before q ne = elim (cases_eq q a) [
    | inl e ↦ inl (e, λ f. ne (subst (λ b. byte_at old b ≡ byte_at (with_byte cur a v) b) (sym e) (f ∙ sym (byte_at-with_byte_same cur a v))))
    | inr d ↦ inr (λ f. ne (f ∙ sym (byte_at-with_byte_other cur a v q d)))
  ]

  either : Breaks m s old (with_byte cur a v) → Breaks m s old cur ⊎ (changes m s old a v ≡ true)
  either (inl c) = elim (set_or_before c.0 c.2) [
    | inl p ↦ inr (held (or_left (is_some (frozen_byte m a)) _ (subst (λ b. IsSome (frozen_byte m b)) p.0 c.1)) p.1)
    | inr ne ↦ inl (inl (c.0, c.1, ne))
  ]
  either (inr c) = elim (set_or_before ((s + c.0) % 2 ^ 32) c.2) [
    | inl p ↦ inr (held (or_right (is_some (frozen_byte m a)) _ (subst (λ b. nat_lt ((b + (2 ^ 32 - s)) % 2 ^ 32) 4 ≡ true) p.0 (at_slot s c.0 ls c.1))) p.1)
    | inr ne ↦ inl (inr (c.0, c.1, ne))
  ]

  -- a byte that was another before still is, where the byte that is set was not
  still : (same : byte_at cur a ≡ byte_at old a) (q : ℕ) → (byte_at old q ≡ byte_at cur q → ⊥) → byte_at old q ≡ byte_at (with_byte cur a v) q → ⊥
  still same q ne f = elim (cases_eq q a) [
    | inl e ↦ ne (subst (λ b. byte_at old b ≡ byte_at cur b) (sym e) (sym same))
    | inr d ↦ ne (f ∙ byte_at-with_byte_other cur a v q d)
  ]

  from_before : byte_at cur a ≡ byte_at old a → Breaks m s old cur → Breaks m s old (with_byte cur a v)
  from_before same (inl c) = inl (c.0, c.1, still same c.0 c.2)
  from_before same (inr c) = inr (c.0, c.1, still same ((s + c.0) % 2 ^ 32) c.2)

  from_set : changes m s old a v ≡ true → Breaks m s old (with_byte cur a v)
  from_set h =
      let p = and_parts (is_held m s a) (not (byte_at old a == v)) h in
      let ne : byte_at old a ≡ byte_at (with_byte cur a v) a → ⊥ = λ f. eqb-false _ _ (not-true _ p.1) (f ∙ byte_at-with_byte_same cur a v) in
      elim (or_cases (is_some (frozen_byte m a)) (nat_lt ((a + (2 ^ 32 - s)) % 2 ^ 32) 4) p.0) [
        | inl some ↦ inl (a, some, ne)
        | inr t ↦
            let k = slot_at s a ls la t in
            inr (k.0, k.1, subst (λ b. byte_at old b ≡ byte_at (with_byte cur a v) b → ⊥) (sym k.2) ne)
      ]

  one_byte : byte_at cur a ≡ byte_at old a → is_broken m s old (with_byte cur a v) ≡ (is_broken m s old cur || changes m s old a v)
  one_byte same = same_if (is_broken m s old (with_byte cur a v)) (is_broken m s old cur || changes m s old a v)
      (λ h. elim (either (breaks m s old (with_byte cur a v) h)) [
        | inl b ↦ or_left (is_broken m s old cur) (changes m s old a v) (broken m s old cur b)
        | inr c ↦ or_right (is_broken m s old cur) (changes m s old a v) c
      ])
      (λ h. broken m s old (with_byte cur a v) (elim (or_cases (is_broken m s old cur) (changes m s old a v) h) [
        | inl b ↦ from_before same (breaks m s old cur b)
        | inr c ↦ from_set c
      ]))

-- ---- the bytes of a store, of which there are four at most

other_address : (a j : ℕ) → j < 3 → (a + 1 + j) % 2 ^ 32 ≡ a % 2 ^ 32 → ⊥
other_address a j l e = omega (arith, l, e)

some_bytes : (m : List Segment) (s : ℕ) (old cur : Mem) (a k v : ℕ) → s < 2 ^ 32 → k ≤ 4
    → ((j : ℕ) → j < k → byte_at cur ((a + j) % 2 ^ 32) ≡ byte_at old ((a + j) % 2 ^ 32))
    → is_broken m s old (store cur a k v) ≡ (is_broken m s old cur || store_changes m s old a k v)
some_bytes m s old cur a zero v ls lk same = sym (or_false (is_broken m s old cur))
some_bytes m s old cur a (suc k) v ls lk same =
    let next : Mem = with_byte cur (a % 2 ^ 32) (v % 256) in
    let later : (j : ℕ) → j < k → byte_at next ((a + 1 + j) % 2 ^ 32) ≡ byte_at old ((a + 1 + j) % 2 ^ 32) = λ j l.
    let e : a + suc j ≡ a + 1 + j = omega arith in
    byte_at-with_byte_other cur (a % 2 ^ 32) (v % 256) ((a + 1 + j) % 2 ^ 32) (other_address a j (omega (arith, l, lk)))
    ∙ subst (λ b. byte_at cur (b % 2 ^ 32) ≡ byte_at old (b % 2 ^ 32)) e (same (suc j) (omega (arith, l)))
    in
    let first : byte_at cur (a % 2 ^ 32) ≡ byte_at old (a % 2 ^ 32) = subst (λ b. byte_at cur (b % 2 ^ 32) ≡ byte_at old (b % 2 ^ 32)) (add-zero a) (same 0 (omega arith)) in
    some_bytes m s old next (a + 1) k (v / 256) ls (omega (arith, lk)) later
    ∙ ap (λ b. b || store_changes m s old (a + 1) k (v / 256)) (one_byte m s old cur (a % 2 ^ 32) (v % 256) ls (mod_below a (2 ^ 32) (lit< tt)) first)
    ∙ or_assoc (is_broken m s old cur) (changes m s old (a % 2 ^ 32) (v % 256)) (store_changes m s old (a + 1) k (v / 256))

four_at_most : (w : Width) → bytes_of w ≤ 4
four_at_most B = omega arith
four_at_most H = omega arith
four_at_most W = omega arith

pub store_breaks_is : (m : List Segment) (s : ℕ) (mem : Mem) (a v : ℕ) (w : Width) → s < 2 ^ 32
    → is_broken m s mem (store mem a (bytes_of w) v) ≡ store_changes m s mem a (bytes_of w) v
store_breaks_is m s mem a v w ls =
    some_bytes m s mem mem a (bytes_of w) v ls (four_at_most w) (λ j l. refl)
    ∙ ap (λ b. b || store_changes m s mem a (bytes_of w) v) (unbroken m s mem)

-- the four bytes of a word
pub store_four : (m : List Segment) (s : ℕ) (old : Mem) (at v b c d : ℕ) (r1 r2 : Bool) → at < 2 ^ 32
    → b ≡ v / 256 % 256 → c ≡ v / 65536 % 256 → d ≡ v / 16777216 % 256
    → r1 ≡ (changes m s old at (v % 256) || changes m s old ((at + 1) % 2 ^ 32) b) → r1 ≡ false
    → r2 ≡ (changes m s old ((at + 2) % 2 ^ 32) c || changes m s old (((at + 2) % 2 ^ 32 + 1) % 2 ^ 32) d)
    → r2 ≡ store_changes m s old at 4 v
store_four m s old at v b c d r1 r2 lt eb ec ed e f g =
    let x : ℕ → ℕ → Bool = changes m s old in
    let a0 : at % 2 ^ 32 ≡ at = omega (arith, lt) in
    let a2 : at + 1 + 1 ≡ at + 2 = omega arith in
    let a3 : ((at + 2) % 2 ^ 32 + 1) % 2 ^ 32 ≡ (at + 1 + 1 + 1) % 2 ^ 32 = omega arith in
    let c' : c ≡ v / 256 / 256 % 256 = omega (arith, ec) in
    let d' : d ≡ v / 256 / 256 / 256 % 256 = omega (arith, ed) in
    four (x (at % 2 ^ 32) (v % 256)) (x ((at + 1) % 2 ^ 32) (v / 256 % 256)) (x ((at + 1 + 1) % 2 ^ 32) (v / 256 / 256 % 256)) (x ((at + 1 + 1 + 1) % 2 ^ 32) (v / 256 / 256 / 256 % 256)) r1 r2
    (e ∙ ap (λ p. x p (v % 256) || x ((at + 1) % 2 ^ 32) b) (sym a0) ∙ ap (λ p. x (at % 2 ^ 32) (v % 256) || x ((at + 1) % 2 ^ 32) p) eb) f
    (g ∙ ap (λ p. x ((at + 2) % 2 ^ 32) c || x p d) a3 ∙ ap (λ p. x (p % 2 ^ 32) c || x ((at + 1 + 1 + 1) % 2 ^ 32) d) (sym a2)
    ∙ ap (λ p. x ((at + 1 + 1) % 2 ^ 32) p || x ((at + 1 + 1 + 1) % 2 ^ 32) d) c' ∙ ap (λ p. x ((at + 1 + 1) % 2 ^ 32) (v / 256 / 256 % 256) || x ((at + 1 + 1 + 1) % 2 ^ 32) p) d')
  where
    four : (x0 x1 x2 x3 r1 r2 : Bool) → r1 ≡ (x0 || x1) → r1 ≡ false → r2 ≡ (x2 || x3) → r2 ≡ (x0 || (x1 || (x2 || (x3 || false))))
    four true x1 x2 x3 r1 r2 e f g = absurd (true≢false (sym e ∙ f))
    four false true x2 x3 r1 r2 e f g = absurd (true≢false (sym e ∙ f))
    four false false x2 x3 r1 r2 e f g = g ∙ ap (λ y. x2 || y) (sym (or_false x3))
