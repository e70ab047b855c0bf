-- Arguments that are stored are bytes, and change no byte that is frozen.
use Rattle.std.proofs.Common.{◌≡◌, ℕ, ◌+◌, ◌/◌, ◌%◌, ◌^◌, ◌<◌, inl, inr, Bool, true, false, cond, List, [], ◌∷◌, Some, refl, sym, ap, ◌∙◌, arith, lit<}
use Rattle.std.specs.Prelude.{is_some}
use Rattle.std.proofs.lemmas.Bool.{cases_Bool, both_ways}
use Rattle.std.proofs.lemmas.Nat.{mod_below}
use Rattle.elf_image.specs.declared.image.Segment.{Segment}
use Rattle.elf_image.specs.Image.{frozen_byte}
use Rattle.dream_words.specs.Memory.{Mem, byte_at, store}
use Rattle.dream_words.specs.Ranges.{AreBytes}
use Rattle.dream_words.proofs.Memories.{byte_at-with_byte_other, AreBytes-store}
use Rattle.run_lines.specs.Starts.{with_free, with_argument, with_arguments}

word_at : (a : ℕ) → a % 2 ^ 32 < 2 ^ 32
word_at a = mod_below a (2 ^ 32) (lit< tt)

module _ (m : List Segment) where
  -- ---- bytes

  free_bytes : (mem : Mem) (a v : ℕ) → AreBytes mem → AreBytes (with_free m mem a v)
  free_bytes mem a v h = by (is_some (frozen_byte m a)) where
    by : (u : Bool) → AreBytes (cond u mem (store mem a 1 v))
    by true = h
    by false = AreBytes-store mem a 1 v h

  argument_bytes : (mem : Mem) (a v : ℕ) → AreBytes mem → AreBytes (with_argument m mem a v)
  argument_bytes mem a v h =
      let one = free_bytes mem a v h in
      let two = free_bytes (with_free m mem a v) ((a + 1) % 2 ^ 32) (v / 2 ^ 8) one in
      let three = free_bytes (with_free m (with_free m mem a v) ((a + 1) % 2 ^ 32) (v / 2 ^ 8)) ((a + 2) % 2 ^ 32) (v / 2 ^ 16) two in
      free_bytes (with_free m (with_free m (with_free m mem a v) ((a + 1) % 2 ^ 32) (v / 2 ^ 8)) ((a + 2) % 2 ^ 32) (v / 2 ^ 16)) ((a + 3) % 2 ^ 32) (v / 2 ^ 24) three

  pub arguments_bytes : (mem : Mem) (a : ℕ) (vs : List ℕ) → AreBytes mem → AreBytes (with_arguments m mem a vs)
  arguments_bytes mem a [] h = h
  arguments_bytes mem a (v ∷ vs) h =
      arguments_bytes (with_argument m mem ((a + 4) % 2 ^ 32) v) ((a + 4) % 2 ^ 32) vs (argument_bytes mem ((a + 4) % 2 ^ 32) v h)

  -- ---- frozen bytes

  module _ (q b : ℕ) (frozen : frozen_byte m q ≡ Some b) where
    free_keeps : (mem : Mem) (a v : ℕ) → a < 2 ^ 32 → byte_at (with_free m mem a v) q ≡ byte_at mem q
    free_keeps mem a v lt = elim (cases_Bool (is_some (frozen_byte m a))) [
      | inl t ↦ ap (λ u. byte_at (cond u mem (store mem a 1 v)) q) t
      | inr f ↦
          let away : q ≡ a % 2 ^ 32 → ⊥ = λ e.
          let same : q ≡ a = omega (arith, e, lt) in
          both_ways (is_some (frozen_byte m a)) f (ap (λ p. is_some (frozen_byte m p)) (sym same) ∙ ap is_some frozen) in
          ap (λ u. byte_at (cond u mem (store mem a 1 v)) q) f ∙ byte_at-with_byte_other mem (a % 2 ^ 32) (v % 256) q away
    ]

    argument_keeps : (mem : Mem) (a v : ℕ) → a < 2 ^ 32 → byte_at (with_argument m mem a v) q ≡ byte_at mem q
    argument_keeps mem a v lt =
        free_keeps (with_free m (with_free m (with_free m mem a v) ((a + 1) % 2 ^ 32) (v / 2 ^ 8)) ((a + 2) % 2 ^ 32) (v / 2 ^ 16)) ((a + 3) % 2 ^ 32) (v / 2 ^ 24) (word_at (a + 3))
        ∙ free_keeps (with_free m (with_free m mem a v) ((a + 1) % 2 ^ 32) (v / 2 ^ 8)) ((a + 2) % 2 ^ 32) (v / 2 ^ 16) (word_at (a + 2))
        ∙ free_keeps (with_free m mem a v) ((a + 1) % 2 ^ 32) (v / 2 ^ 8) (word_at (a + 1))
        ∙ free_keeps mem a v lt

    pub arguments_keep : (mem : Mem) (a : ℕ) (vs : List ℕ) → byte_at (with_arguments m mem a vs) q ≡ byte_at mem q
    arguments_keep mem a [] = refl
    arguments_keep mem a (v ∷ vs) =
        arguments_keep (with_argument m mem ((a + 4) % 2 ^ 32) v) ((a + 4) % 2 ^ 32) vs ∙ argument_keeps mem ((a + 4) % 2 ^ 32) v (word_at (a + 4))
