-- Texts that a stream takes in pieces.
use Rattle.std.proofs.Common.{◌≡◌, ℕ, suc, ◌<◌, ◌≤◌, List, [], ◌∷◌, ◌++◌, length, take, drop, get_or, Option, Some, None, Result, Ok, Err, OnOk, OnErr, inl, inr, refl, sym, ap, ◌∙◌, arith, append_assoc}
use Rattle.std.proofs.Math.Seq.{split_at}
use Rattle.std.proofs.lemmas.List.Concat.{flat_map-append, flat_map-cons}
use Rattle.std.specs.List.{flat_map}
use Rattle.std.proofs.lemmas.List.{append-nil, take-append-drop}
use Rattle.std.specs.Io.KnownBytes.{Appends, Keeps}
use Rattle.dream_outside.specs.Causes.{Rose}
use Rattle.dream_top.specs.Answers.{Writing, writing_of, StopsIn, Tells}

-- a stream that stays the same took nothing
pub keeps_same : (a : Option (List ℕ)) → Keeps a a
keeps_same None = tt
keeps_same (Some xs) = refl

pub appends_none : (a : Option (List ℕ)) → Appends a a []
appends_none None = tt
appends_none (Some xs) = sym (append-nil xs)

-- it took the one piece and then the other
pub appends_more : (a b c : Option (List ℕ)) (xs ys : List ℕ) → Appends a b xs → Appends b c ys → Appends a c (xs ++ ys)
appends_more None b c xs ys h g = tt
appends_more (Some u) None c xs ys h g = absurd h
appends_more (Some u) (Some v) None xs ys h g = absurd g
appends_more (Some u) (Some v) (Some w) xs ys h g = g ∙ ap (λ t. t ++ ys) h ∙ append_assoc u xs ys

-- it took a piece, and then nothing
pub appends_kept : (a b c : Option (List ℕ)) (xs : List ℕ) → Appends a b xs → Keeps b c → Appends a c xs
appends_kept None b c xs h k = tt
appends_kept (Some u) None c xs h k = absurd h
appends_kept (Some u) (Some v) None xs h k = absurd k
appends_kept (Some u) (Some v) (Some w) xs h k = k ∙ h

-- a count that rose later rose
pub rose_later : (a b c : ℕ) → a ≤ b → Rose b c → Rose a c
rose_later a b c le h = omega arith

-- it failed after a front of the piece
pub stops_after : (old mid new : Option (List ℕ)) (f g h : ℕ) (piece : List ℕ) (at : ℕ) → Appends old mid (take at piece) → f ≤ g
    → Keeps mid new → Rose g h → StopsIn (writing_of old new f h) piece
stops_after old mid new f g h piece at took le kept rose = record {
  rose = rose_later f g h le rose;
  front = take at piece;
  rest = drop at piece;
  is_front = sym (take-append-drop at piece);
  took = appends_kept old mid new (take at piece) took kept;
}

-- it stopped in a piece that has others before it and after it
pub stops_within : (old mid new : Option (List ℕ)) (f g h : ℕ) (a b c : List ℕ) → Appends old mid a → f ≤ g
    → StopsIn (writing_of mid new g h) b → StopsIn (writing_of old new f h) (a ++ (b ++ c))
stops_within old mid new f g h a b c took le s = record {
  rose = rose_later f g h le s.rose;
  front = a ++ s.front;
  rest = s.rest ++ c;
  is_front =
      ap (λ t. a ++ (t ++ c)) s.is_front ∙ ap (λ t. a ++ t) (append_assoc s.front s.rest c) ∙ sym (append_assoc a s.front (s.rest ++ c));
  took = appends_more old mid new a s.front took s.took;
}

-- an error with a fact
pub on_err : {T E : Type 0} (r : Result T E) (P : Type 0) → P → OnErr r P
on_err (Ok x) P p = tt
on_err (Err e) P p = p

-- of pieces in a row: those before the i-th, that one, and those after it
pub flat_map_around : {X : Type 0} (f : X → List ℕ) (xs : List X) (i : ℕ) (d : X) → i < length xs
    → flat_map f (take i xs) ++ (f (get_or xs i d) ++ flat_map f (drop (suc i) xs)) ≡ flat_map f xs
flat_map_around f xs i d h =
    sym (ap (flat_map f) (split_at xs i d h) ∙ flat_map-append f (take i xs) (get_or xs i d ∷ drop (suc i) xs) ∙ ap (λ t. flat_map f (take i xs) ++ t) (flat_map-cons f (get_or xs i d) (drop (suc i) xs)))

-- whether it took the whole text or stopped in it
pub tells_whole : (o : Writing) (text : List ℕ) → Appends o.taken o.taken_now text → Tells o text
tells_whole o text took = record { front = text; rest = []; is_front = sym (append-nil text); took = took; whole = inl refl }

pub tells_front : (o : Writing) (text : List ℕ) → StopsIn o text → Tells o text
tells_front o text s = record { front = s.front; rest = s.rest; is_front = s.is_front; took = s.took; whole = inr s.rose }

pub tells : {T E : Type 0} (o : Writing) (text : List ℕ) (r : Result T E) → OnOk r (Appends o.taken o.taken_now text) → OnErr r (StopsIn o text) → Tells o text
tells o text (Ok x) ok err = tells_whole o text ok
tells o text (Err e) ok err = tells_front o text err

-- five pieces in a row, grouped in either way
pub regrouped : (a b c d e : List ℕ) → a ++ (b ++ (c ++ (d ++ e))) ≡ a ++ b ++ c ++ d ++ e
regrouped a b c d e = simp append_assoc
