-- Each answer excludes the causes of the others.
use Rattle.std.proofs.Common.{◌≡◌, ◌⊎◌, inl, inr, refl, sym, ap, subst, ◌∙◌, arith, ℕ, ◌<◌, ◌≤◌, List, length, Some, None, Ok, Err}
use Rattle.std.specs.Option.{IsSomeAnd}
use Rattle.std.specs.Io.KnownBytes.{Appends}
use Rattle.dream_outside.specs.Causes.{Store, Rose, IsUnheld, HoldsAt}
use Rattle.elf_image.specs.declared.image.Segment.{Segment}
use Rattle.elf_image.specs.declared.image.ElfFault.{ElfFault}
use Rattle.elf_image.specs.declared.range.Range.{Range}
use Rattle.elf_image.specs.Image.{image_of}
use Rattle.elf_symbols.specs.declared.find.FindFault.{FindFault}
use Rattle.elf_symbols.specs.declared.find.FindFault.TheVariants as find
use Rattle.elf_symbols.specs.Functions.{function_named}
use Rattle.flow_graph.specs.declared.place.Place.{Place}
use Rattle.flow_graph.proofs.OnePlaces.{one_place}
use Rattle.c_syntax.specs.declared.syntax.CFun.{CFun}
use Rattle.c_syntax.specs.Text.{canonical_text}
use Rattle.c_syntax.specs.Stands.{StandsFor, OneFunction}
use Rattle.c_read.specs.Refusals.{IsRefusedAt}
use Rattle.c_read.specs.Answers.{OnePlace}
use Rattle.flow_graph.specs.Place.{NamedPlace, NamedAfter, IsLeastPlace, HasNoPlace}
use Rattle.dream_engine.specs.Agreement.{IsDecompiled}
use Rattle.run_lines.specs.StartWords.{given_by}
use Rattle.drill_lines.specs.Lines.{IsDrillLine}
use Rattle.dream_top.specs.Runs.{IsRunText}
use Rattle.dream_top.specs.declared.status.Status.{Status}
use Rattle.dream_top.specs.declared.status.Status.TheVariants.{Done, Usage, ReadFault, WriteFault, NoMemory, NotElf, NoFunction, Outside, FileTooLarge, NotProfile}
use Rattle.dream_top.specs.CommandLine.{Func, Named, Target, Command, Decompile, Run, Tidy, Drill, Prelude, function_of, path_of}
use Rattle.dream_top.specs.Answers.{limit, Reading, Writing, Holds, IsReadFault, IsTooLarge, Loads, range_in, Finds, FindsNone, IsNotElf, IsNoFunction, LoadsFunction, StopsIn, Made, Makes, Takes, Tidies, IsNotProfile, Answers, AnswersFunction, AnswersTidy, Writes, WritesMade}
use Rattle.dream_top.specs.Loading.{find_status}
use Rattle.dream_top.specs.Header.{header_text}
use Rattle.dream_top.specs.Laws.{HasNoFault, NoRefusalWithoutCause, EachCauseHasItsAnswer}

-- ---- what is held

-- bytes that are held are such as what is held
held_is : (held : Store) (path bytes : List ℕ) (P : List ℕ → Type 0) → HoldsAt held path bytes → Holds held path P → P bytes
held_is None path bytes P at h = absurd at
held_is (Some files) path bytes P at h = subst (λ o. IsSomeAnd o P) at h

-- a path that holds nothing holds no such bytes
none_held : (held : Store) (path : List ℕ) (P : List ℕ → Type 0) → IsUnheld held path → Holds held path P → ⊥
none_held None path P un h = absurd un
none_held (Some files) path P un h = subst (λ o. IsSomeAnd o P) un h

-- a path holds bytes or nothing
held_or_none : (held : Store) (path bytes : List ℕ) → HoldsAt held path bytes → IsUnheld held path → ⊥
held_or_none None path bytes at un = absurd at
held_or_none (Some files) path bytes at un = cc

-- no fault of reading comes where bytes are held and no count rose
no_read_fault : (i : Reading) (path bytes : List ℕ) → HoldsAt i.held path bytes → (Rose i.faults i.faults_now → ⊥) → IsReadFault i path → ⊥
no_read_fault i path bytes at quiet f = elim f.cause [ inl rose ↦ quiet rose | inr un ↦ held_or_none i.held path bytes at un ]

-- a file that was loaded is no longer than the limit, and its bytes are such
loaded_small : (i : Reading) (path bytes : List ℕ) (P : List ℕ → Type 0) → HoldsAt i.held path bytes → Loads i path P → (length bytes ≤ limit) × P bytes
loaded_small i path bytes P at l = held_is i.held path bytes (λ all. (length all ≤ limit) × P all) at l.held

too_long : (i : Reading) (path bytes : List ℕ) → HoldsAt i.held path bytes → length bytes ≤ limit → IsTooLarge i path → ⊥
too_long i path bytes at small t = let long : limit < length bytes = held_is i.held path bytes (λ all. limit < length all) at t.held in omega arith

-- ---- what FUNC says

-- one image, and one range
one_image : (bytes : List ℕ) (func : Func) (m n : List Segment) (r q : Range) → Finds m bytes func r → Finds n bytes func q → n ≡ m
one_image bytes func m n r q a b = let d = a.image in let e = b.image in cc

one_range : (bytes : List ℕ) (func : Func) (m n : List Segment) (r q : Range) → Finds m bytes func r → Finds n bytes func q → q ≡ r
one_range bytes func m n r q a b = let d = a.range in let e = b.range in cc

-- a function that is found isn't refused
found_or_none : (bytes : List ℕ) (func : Func) (m : List Segment) (r : Range) (why : FindFault) → Finds m bytes func r → FindsNone bytes func why → ⊥
found_or_none bytes func m r why a b = let d = a.range in let e = b.range in cc

found_or_broken : (bytes : List ℕ) (func : Func) (m : List Segment) (r : Range) (fault : ElfFault) → Finds m bytes func r → IsNotElf bytes func fault → ⊥
found_or_broken bytes func m r fault a b = elim b [
  | inl d ↦ let e = a.image in cc
  | inr none ↦ found_or_none bytes func m r (find.Elf fault) a none
]

-- there is one reason why none is found
one_reason : (bytes : List ℕ) (func : Func) (why other : FindFault) → FindsNone bytes func why → FindsNone bytes func other → other ≡ why
one_reason bytes func why other a b = let d = a.range in let e = b.range in cc

-- a file that has no image
image_or_broken : (bytes : List ℕ) (func : Func) (m : List Segment) (r : Range) (fault : ElfFault) → image_of bytes ≡ Err fault → Finds m bytes func r → ⊥
image_or_broken bytes func m r fault d a = let e = a.image in cc

image_or_none : (bytes : List ℕ) (func : Func) (fault : ElfFault) (why : FindFault) → image_of bytes ≡ Err fault → FindsNone bytes func why → ⊥
image_or_none bytes func fault why d a = let e = a.image in cc

-- the file of a function that was loaded has the function
loaded_found : (i : Reading) (f : Target) (bytes : List ℕ) (P : List Segment → Range → Type 0) → HoldsAt i.held f.path bytes → (l : LoadsFunction i f P)
    → Finds l.m bytes f.func l.r
loaded_found i f bytes P at l = (loaded_small i f.path bytes (λ all. Finds l.m all f.func l.r) at l.loads).1

-- what is so of the function that was loaded is so of the one that the bytes have
loaded_such : (i : Reading) (f : Target) (bytes : List ℕ) (m : List Segment) (r : Range) (P : List Segment → Range → Type 0) → HoldsAt i.held f.path bytes → Finds m bytes f.func r
    → LoadsFunction i f P → P m r
loaded_such i f bytes m r P at found l =
    let here = loaded_found i f bytes P at l in
    subst (λ n. P n r) (one_image bytes f.func m l.m r l.r found here) (subst (λ q. P l.m q) (one_range bytes f.func m l.m r l.r found here) l.holds)

-- ---- commands

-- what is made of a range is so only where no place is named
abbrev NamesNone : Made → Type 0
NamesNone P = (m : List Segment) (r : Range) (text : List ℕ) → P m r text → HasNoPlace m r

same_some : (f g : Target) → Some f ≡ Some g → f ≡ g
same_some f g e = cc

-- what follows from the answers about a function, whatever is made of it, follows from those of its command
by_command : (C : Type 0) (c : Command) (s : Status) (i : Reading) (o : Writing) (f : Target) → function_of c ≡ Some f → Answers s i o (Some c)
    → ((P : Made) → NamesNone P → AnswersFunction P s i o f → C) → C
by_command C (Decompile form g) s i o f e a k = k (IsDecompiled form) (λ m r text d. d.is_function.no_place) (subst (AnswersFunction (IsDecompiled form) s i o) (same_some g f e) a)
by_command C (Run g n words) s i o f e a k =
    k (IsRunText n (given_by words)) (λ m r text d. d.is_function.no_place) (subst (AnswersFunction (IsRunText n (given_by words)) s i o) (same_some g f e) a)
by_command C (Tidy path) s i o f e a k = absurd cc
by_command C (Drill n) s i o f e a k = absurd cc
by_command C Prelude s i o f e a k = absurd cc

same_path : (p q : List ℕ) → Some p ≡ Some q → p ≡ q
same_path p q e = cc

-- what follows from the answers about a function and from those about a text follows from those of a command that reads a file
by_path : (C : Type 0) (c : Command) (s : Status) (i : Reading) (o : Writing) (path : List ℕ) → path_of c ≡ Some path → Answers s i o (Some c)
    → ((P : Made) (f : Target) → f.path ≡ path → AnswersFunction P s i o f → C) → (AnswersTidy s i o path → C) → C
by_path C (Decompile form g) s i o path e a k t = k (IsDecompiled form) g (same_path g.path path e) a
by_path C (Run g n words) s i o path e a k t = k (IsRunText n (given_by words)) g (same_path g.path path e) a
by_path C (Tidy p) s i o path e a k t = t (subst (λ q. AnswersTidy s i o q) (same_path p path e) a)
by_path C (Drill n) s i o path e a k t = absurd cc
by_path C Prelude s i o path e a k t = absurd cc

-- ---- places

-- a place is named, or none is
named_or_none : (m : List Segment) (r : Range) (p : Place) → NamedPlace m r p → HasNoPlace m r → ⊥
named_or_none m r p named none = let l : IsLeastPlace m r p = subst (λ o. NamedAfter o m r p) none.range named in none.reached p.at p.cause l.reached l.has_cause

-- ---- the laws

done_or_memory : (P : Made) (s : Status) (i : Reading) (o : Writing) (f : Target) (bytes : List ℕ) (m : List Segment) (r : Range) → HoldsAt i.held f.path bytes → length bytes ≤ limit
    → Finds m bytes f.func r → HasNoPlace m r → HasNoFault i o → AnswersFunction P s i o f → (s ≡ Done) ⊎ (s ≡ NoMemory)
done_or_memory P Done i o f bytes m r at small found none quiet a = inl refl
done_or_memory P NoMemory i o f bytes m r at small found none quiet a = inr refl
done_or_memory P WriteFault i o f bytes m r at small found none quiet a = absurd (quiet.out a.2.rose)
done_or_memory P ReadFault i o f bytes m r at small found none quiet a = absurd (no_read_fault i f.path bytes at quiet.files a.0)
done_or_memory P FileTooLarge i o f bytes m r at small found none quiet a = absurd (too_long i f.path bytes at small a.0)
done_or_memory P (NotElf g) i o f bytes m r at small found none quiet a =
    absurd (found_or_broken bytes f.func m r g found (loaded_small i f.path bytes (λ all. IsNotElf all f.func g) at a.0).1)
done_or_memory P NoFunction i o f bytes m r at small found none quiet a =
    absurd (found_or_none bytes f.func m r find.NoFunction found (loaded_small i f.path bytes (λ all. IsNoFunction all f.func) at a.0).1)
done_or_memory P (Outside p) i o f bytes m r at small found none quiet a =
    absurd (named_or_none m r p (loaded_such i f bytes m r (λ n q. NamedPlace n q p) at found a.0) none)
done_or_memory P Usage i o f bytes m r at small found none quiet a = absurd a.0
done_or_memory P (NotProfile k) i o f bytes m r at small found none quiet a = absurd a.0

pub no_refusal_without_cause : NoRefusalWithoutCause
no_refusal_without_cause words i o c f bytes m r s accepted none quiet a =
    by_command ((s ≡ Done) ⊎ (s ≡ NoMemory)) c s i o f accepted.function (subst (λ asked. Answers s i o asked) accepted.command a)
    (λ P named b. done_or_memory P s i o f bytes m r accepted.held accepted.small accepted.found none quiet b)

fault_or_memory : (P : Made) (i : Reading) (o : Writing) (c : Target) (s : Status) → IsUnheld i.held c.path → AnswersFunction P s i o c → (s ≡ ReadFault) ⊎ (s ≡ NoMemory)
fault_or_memory P i o c ReadFault un a = inl refl
fault_or_memory P i o c NoMemory un a = inr refl
fault_or_memory P i o c Done un a = absurd (none_held i.held c.path _ un a.1.loads.held)
fault_or_memory P i o c WriteFault un a = absurd (none_held i.held c.path _ un a.1.loads.held)
fault_or_memory P i o c FileTooLarge un a = absurd (none_held i.held c.path _ un a.0.held)
fault_or_memory P i o c (NotElf f) un a = absurd (none_held i.held c.path _ un a.0.held)
fault_or_memory P i o c NoFunction un a = absurd (none_held i.held c.path _ un a.0.held)
fault_or_memory P i o c (Outside p) un a = absurd (none_held i.held c.path _ un a.0.loads.held)
fault_or_memory P i o c Usage un a = absurd a.0
fault_or_memory P i o c (NotProfile k) un a = absurd a.0

long_or_memory : (P : Made) (i : Reading) (o : Writing) (c : Target) (bytes : List ℕ) (s : Status) → HoldsAt i.held c.path bytes → limit < length bytes
    → (Rose i.faults i.faults_now → ⊥) → AnswersFunction P s i o c → (s ≡ FileTooLarge) ⊎ (s ≡ NoMemory)
long_or_memory P i o c bytes FileTooLarge at long quiet a = inl refl
long_or_memory P i o c bytes NoMemory at long quiet a = inr refl
long_or_memory P i o c bytes Done at long quiet a = let small : length bytes ≤ limit = (loaded_small i c.path bytes _ at a.1.loads).0 in absurd (omega arith)
long_or_memory P i o c bytes WriteFault at long quiet a = let small : length bytes ≤ limit = (loaded_small i c.path bytes _ at a.1.loads).0 in absurd (omega arith)
long_or_memory P i o c bytes ReadFault at long quiet a = absurd (no_read_fault i c.path bytes at quiet a.0)
long_or_memory P i o c bytes (NotElf f) at long quiet a = let small : length bytes ≤ limit = (loaded_small i c.path bytes _ at a.0).0 in absurd (omega arith)
long_or_memory P i o c bytes NoFunction at long quiet a = let small : length bytes ≤ limit = (loaded_small i c.path bytes _ at a.0).0 in absurd (omega arith)
long_or_memory P i o c bytes (Outside p) at long quiet a = let small : length bytes ≤ limit = (loaded_small i c.path bytes _ at a.0.loads).0 in absurd (omega arith)
long_or_memory P i o c bytes Usage at long quiet a = absurd a.0
long_or_memory P i o c bytes (NotProfile k) at long quiet a = absurd a.0

-- after more bytes than the limit no other answer comes
many_or_memory : (P : Made) (i : Reading) (o : Writing) (c : Target) (s : Status) → i.got ≤ limit → limit < i.got_now → AnswersFunction P s i o c
    → (s ≡ FileTooLarge) ⊎ (s ≡ NoMemory)
many_or_memory P i o c FileTooLarge few many a = inl refl
many_or_memory P i o c NoMemory few many a = inr refl
many_or_memory P i o c Done few many a = let small : i.got_now ≤ limit = a.1.loads.got in absurd (omega arith)
many_or_memory P i o c WriteFault few many a = let small : i.got_now ≤ limit = a.1.loads.got in absurd (omega arith)
many_or_memory P i o c ReadFault few many a = let same : i.got_now ≡ i.got = a.0.within many in absurd (omega arith)
many_or_memory P i o c (NotElf f) few many a = let small : i.got_now ≤ limit = a.0.got in absurd (omega arith)
many_or_memory P i o c NoFunction few many a = let small : i.got_now ≤ limit = a.0.got in absurd (omega arith)
many_or_memory P i o c (Outside p) few many a = let small : i.got_now ≤ limit = a.0.loads.got in absurd (omega arith)
many_or_memory P i o c Usage few many a = absurd a.0
many_or_memory P i o c (NotProfile k) few many a = absurd a.0

-- a file that has no image has one fault
one_fault : (bytes : List ℕ) (func : Func) (f g : ElfFault) → image_of bytes ≡ Err f → IsNotElf bytes func g → g ≡ f
one_fault bytes func f g d b = elim b [
  | inl e ↦ cc
  | inr none ↦ absurd (image_or_none bytes func f (find.Elf g) d none)
]

broken_or_memory : (P : Made) (i : Reading) (o : Writing) (c : Target) (bytes : List ℕ) (f : ElfFault) (s : Status) → HoldsAt i.held c.path bytes
    → length bytes ≤ limit → image_of bytes ≡ Err f → (Rose i.faults i.faults_now → ⊥) → AnswersFunction P s i o c → (s ≡ NotElf f) ⊎ (s ≡ NoMemory)
broken_or_memory P i o c bytes f (NotElf g) at small image quiet a =
    inl (ap NotElf (one_fault bytes c.func f g image (loaded_small i c.path bytes (λ all. IsNotElf all c.func g) at a.0).1))
broken_or_memory P i o c bytes f NoMemory at small image quiet a = inr refl
broken_or_memory P i o c bytes f Done at small image quiet a = absurd (image_or_broken bytes c.func a.1.m a.1.r f image (loaded_found i c bytes _ at a.1))
broken_or_memory P i o c bytes f WriteFault at small image quiet a = absurd (image_or_broken bytes c.func a.1.m a.1.r f image (loaded_found i c bytes _ at a.1))
broken_or_memory P i o c bytes f ReadFault at small image quiet a = absurd (no_read_fault i c.path bytes at quiet a.0)
broken_or_memory P i o c bytes f FileTooLarge at small image quiet a = absurd (too_long i c.path bytes at small a.0)
broken_or_memory P i o c bytes f NoFunction at small image quiet a =
    absurd (image_or_none bytes c.func f find.NoFunction image (loaded_small i c.path bytes (λ all. IsNoFunction all c.func) at a.0).1)
broken_or_memory P i o c bytes f (Outside p) at small image quiet a = absurd (image_or_broken bytes c.func a.0.m a.0.r f image (loaded_found i c bytes _ at a.0))
broken_or_memory P i o c bytes f Usage at small image quiet a = absurd a.0
broken_or_memory P i o c bytes f (NotProfile k) at small image quiet a = absurd a.0

-- the reason that is told is the one
told_reason : (bytes : List ℕ) (func : Func) (why : FindFault) (g : ElfFault) → FindsNone bytes func why → IsNotElf bytes func g → NotElf g ≡ find_status why
told_reason bytes func why g none b = elim b [
  | inl e ↦ absurd (image_or_none bytes func g why e none)
  | inr other ↦ ap find_status (one_reason bytes func why (find.Elf g) none other)
]

none_or_memory : (P : Made) (i : Reading) (o : Writing) (c : Target) (bytes : List ℕ) (why : FindFault) (s : Status) → HoldsAt i.held c.path bytes
    → length bytes ≤ limit → FindsNone bytes c.func why → (Rose i.faults i.faults_now → ⊥) → AnswersFunction P s i o c → (s ≡ find_status why) ⊎ (s ≡ NoMemory)
none_or_memory P i o c bytes why (NotElf g) at small none quiet a =
    inl (told_reason bytes c.func why g none (loaded_small i c.path bytes (λ all. IsNotElf all c.func g) at a.0).1)
none_or_memory P i o c bytes why NoFunction at small none quiet a =
    inl (ap find_status (one_reason bytes c.func why find.NoFunction none (loaded_small i c.path bytes (λ all. IsNoFunction all c.func) at a.0).1))
none_or_memory P i o c bytes why NoMemory at small none quiet a = inr refl
none_or_memory P i o c bytes why Done at small none quiet a = absurd (found_or_none bytes c.func a.1.m a.1.r why (loaded_found i c bytes _ at a.1) none)
none_or_memory P i o c bytes why WriteFault at small none quiet a = absurd (found_or_none bytes c.func a.1.m a.1.r why (loaded_found i c bytes _ at a.1) none)
none_or_memory P i o c bytes why ReadFault at small none quiet a = absurd (no_read_fault i c.path bytes at quiet a.0)
none_or_memory P i o c bytes why FileTooLarge at small none quiet a = absurd (too_long i c.path bytes at small a.0)
none_or_memory P i o c bytes why (Outside p) at small none quiet a = absurd (found_or_none bytes c.func a.0.m a.0.r why (loaded_found i c bytes _ at a.0) none)
none_or_memory P i o c bytes why Usage at small none quiet a = absurd a.0
none_or_memory P i o c bytes why (NotProfile k) at small none quiet a = absurd a.0

-- a name that has no function, for a reason
none_named : (bytes : List ℕ) (m : List Segment) (func : Func) (name : List ℕ) (why : FindFault) → image_of bytes ≡ Ok m → func ≡ Named name → function_named bytes name ≡ Err why
    → FindsNone bytes func why
none_named bytes m func name why image e none = record { m = m; image = image; range = subst (λ x. range_in bytes x ≡ Err why) (sym e) none }

-- a range of which something was made names no place
not_named : (P : Made) → NamesNone P → (i : Reading) (c : Target) (bytes text : List ℕ) (m : List Segment) (r : Range) (p : Place) → HoldsAt i.held c.path bytes → Finds m bytes c.func r
    → NamedPlace m r p → Makes P i c text → ⊥
not_named P quiet i c bytes text m r p at found named d =
    named_or_none m r p named (quiet m r text (loaded_such i c bytes m r (λ n q. P n q text) at found d))

outside_or_memory : (P : Made) → NamesNone P → (i : Reading) (o : Writing) (c : Target) (bytes : List ℕ) (m : List Segment) (r : Range) (p : Place) (s : Status) → HoldsAt i.held c.path bytes
    → length bytes ≤ limit → Finds m bytes c.func r → NamedPlace m r p → (Rose i.faults i.faults_now → ⊥) → AnswersFunction P s i o c
    → (s ≡ Outside p) ⊎ (s ≡ NoMemory)
outside_or_memory P none i o c bytes m r p (Outside q) at small found named quiet a =
    inl (ap Outside (one_place m r q p (loaded_such i c bytes m r (λ n t. NamedPlace n t q) at found a.0) named))
outside_or_memory P none i o c bytes m r p NoMemory at small found named quiet a = inr refl
outside_or_memory P none i o c bytes m r p Done at small found named quiet a = absurd (not_named P none i c bytes a.0 m r p at found named a.1)
outside_or_memory P none i o c bytes m r p WriteFault at small found named quiet a = absurd (not_named P none i c bytes a.0 m r p at found named a.1)
outside_or_memory P none i o c bytes m r p ReadFault at small found named quiet a = absurd (no_read_fault i c.path bytes at quiet a.0)
outside_or_memory P none i o c bytes m r p FileTooLarge at small found named quiet a = absurd (too_long i c.path bytes at small a.0)
outside_or_memory P none i o c bytes m r p (NotElf f) at small found named quiet a =
    absurd (found_or_broken bytes c.func m r f found (loaded_small i c.path bytes (λ all. IsNotElf all c.func f) at a.0).1)
outside_or_memory P none i o c bytes m r p NoFunction at small found named quiet a =
    absurd (found_or_none bytes c.func m r find.NoFunction found (loaded_small i c.path bytes (λ all. IsNoFunction all c.func) at a.0).1)
outside_or_memory P none i o c bytes m r p Usage at small found named quiet a = absurd a.0
outside_or_memory P none i o c bytes m r p (NotProfile k) at small found named quiet a = absurd a.0

-- ---- texts

-- the bytes that were taken are those that are held
taken_are : (i : Reading) (path held bytes : List ℕ) → HoldsAt i.held path held → Takes i path bytes → held ≡ bytes
taken_are i path held bytes at t = (loaded_small i path held (λ all. all ≡ bytes) at t).1

tidy_unheld : (i : Reading) (o : Writing) (path : List ℕ) (s : Status) → IsUnheld i.held path → AnswersTidy s i o path → (s ≡ ReadFault) ⊎ (s ≡ NoMemory)
tidy_unheld i o path ReadFault un a = inl refl
tidy_unheld i o path NoMemory un a = inr refl
tidy_unheld i o path Done un a = absurd (none_held i.held path _ un a.1.takes.held)
tidy_unheld i o path WriteFault un a = absurd (none_held i.held path _ un a.1.takes.held)
tidy_unheld i o path FileTooLarge un a = absurd (none_held i.held path _ un a.0.held)
tidy_unheld i o path (NotProfile k) un a = absurd (none_held i.held path _ un a.0.takes.held)
tidy_unheld i o path (NotElf f) un a = absurd a.0
tidy_unheld i o path NoFunction un a = absurd a.0
tidy_unheld i o path (Outside p) un a = absurd a.0
tidy_unheld i o path Usage un a = absurd a.0

tidy_many : (i : Reading) (o : Writing) (path : List ℕ) (s : Status) → i.got ≤ limit → limit < i.got_now → AnswersTidy s i o path → (s ≡ FileTooLarge) ⊎ (s ≡ NoMemory)
tidy_many i o path FileTooLarge few many a = inl refl
tidy_many i o path NoMemory few many a = inr refl
tidy_many i o path Done few many a = let small : i.got_now ≤ limit = a.1.takes.got in absurd (omega arith)
tidy_many i o path WriteFault few many a = let small : i.got_now ≤ limit = a.1.takes.got in absurd (omega arith)
tidy_many i o path ReadFault few many a = let same : i.got_now ≡ i.got = a.0.within many in absurd (omega arith)
tidy_many i o path (NotProfile k) few many a = let small : i.got_now ≤ limit = a.0.takes.got in absurd (omega arith)
tidy_many i o path (NotElf f) few many a = absurd a.0
tidy_many i o path NoFunction few many a = absurd a.0
tidy_many i o path (Outside p) few many a = absurd a.0
tidy_many i o path Usage few many a = absurd a.0

tidy_long : (i : Reading) (o : Writing) (path bytes : List ℕ) (s : Status) → HoldsAt i.held path bytes → limit < length bytes → (Rose i.faults i.faults_now → ⊥)
    → AnswersTidy s i o path → (s ≡ FileTooLarge) ⊎ (s ≡ NoMemory)
tidy_long i o path bytes FileTooLarge at long quiet a = inl refl
tidy_long i o path bytes NoMemory at long quiet a = inr refl
tidy_long i o path bytes Done at long quiet a = let small : length bytes ≤ limit = (loaded_small i path bytes _ at a.1.takes).0 in absurd (omega arith)
tidy_long i o path bytes WriteFault at long quiet a = let small : length bytes ≤ limit = (loaded_small i path bytes _ at a.1.takes).0 in absurd (omega arith)
tidy_long i o path bytes ReadFault at long quiet a = absurd (no_read_fault i path bytes at quiet a.0)
tidy_long i o path bytes (NotProfile k) at long quiet a = let small : length bytes ≤ limit = (loaded_small i path bytes _ at a.0.takes).0 in absurd (omega arith)
tidy_long i o path bytes (NotElf f) at long quiet a = absurd a.0
tidy_long i o path bytes NoFunction at long quiet a = absurd a.0
tidy_long i o path bytes (Outside p) at long quiet a = absurd a.0
tidy_long i o path bytes Usage at long quiet a = absurd a.0

-- what is held and stands for a function is read as that function
same_function : OneFunction → (bytes held : List ℕ) (f g : CFun) → held ≡ bytes → StandsFor held f → StandsFor bytes g → g ≡ f
same_function one_function bytes held f g e h b = one_function bytes g f b (subst (λ t. StandsFor t f) e h)

tidy_done : OneFunction → (i : Reading) (o : Writing) (path bytes : List ℕ) (f : CFun) (s : Status) → HoldsAt i.held path bytes → length bytes ≤ limit → StandsFor bytes f → HasNoFault i o
    → AnswersTidy s i o path → ((s ≡ Done) × Appends o.taken o.taken_now (canonical_text f)) ⊎ (s ≡ NoMemory)
tidy_done one i o path bytes f Done at small stands quiet a =
    let same = same_function one a.1.bytes bytes f a.1.f (taken_are i path bytes a.1.bytes at a.1.takes) stands a.1.stands in
    let text : a.0 ≡ canonical_text f = a.1.canonical ∙ ap canonical_text same in
    inl (refl, subst (λ t. Appends o.taken o.taken_now t) text a.2)
tidy_done one i o path bytes f NoMemory at small stands quiet a = inr refl
tidy_done one i o path bytes f WriteFault at small stands quiet a = absurd (quiet.out a.2.rose)
tidy_done one i o path bytes f ReadFault at small stands quiet a = absurd (no_read_fault i path bytes at quiet.files a.0)
tidy_done one i o path bytes f FileTooLarge at small stands quiet a = absurd (too_long i path bytes at small a.0)
tidy_done one i o path bytes f (NotProfile k) at small stands quiet a =
    absurd (a.0.refused.stands_for_none f (subst (λ t. StandsFor t f) (taken_are i path bytes a.0.bytes at a.0.takes) stands))
tidy_done one i o path bytes f (NotElf g) at small stands quiet a = absurd a.0
tidy_done one i o path bytes f NoFunction at small stands quiet a = absurd a.0
tidy_done one i o path bytes f (Outside p) at small stands quiet a = absurd a.0
tidy_done one i o path bytes f Usage at small stands quiet a = absurd a.0

tidy_refused : OnePlace → (i : Reading) (o : Writing) (path bytes : List ℕ) (s : Status) → HoldsAt i.held path bytes → length bytes ≤ limit → ((f : CFun) → StandsFor bytes f → ⊥)
    → (Rose i.faults i.faults_now → ⊥) → AnswersTidy s i o path
    → ((at : ℕ) × IsRefusedAt bytes at × ((k : ℕ) → IsRefusedAt bytes k → k ≡ at) × (s ≡ NotProfile at)) ⊎ (s ≡ NoMemory)
tidy_refused one i o path bytes (NotProfile n) at small none quiet a =
    let refused : IsRefusedAt bytes n = subst (λ t. IsRefusedAt t n) (sym (taken_are i path bytes a.0.bytes at a.0.takes)) a.0.refused in
    inl (n, refused, (λ k other. one bytes k n other refused), refl)
tidy_refused one i o path bytes NoMemory at small none quiet a = inr refl
tidy_refused one i o path bytes Done at small none quiet a =
    absurd (none a.1.f (subst (λ t. StandsFor t a.1.f) (sym (taken_are i path bytes a.1.bytes at a.1.takes)) a.1.stands))
tidy_refused one i o path bytes WriteFault at small none quiet a =
    absurd (none a.1.f (subst (λ t. StandsFor t a.1.f) (sym (taken_are i path bytes a.1.bytes at a.1.takes)) a.1.stands))
tidy_refused one i o path bytes ReadFault at small none quiet a = absurd (no_read_fault i path bytes at quiet a.0)
tidy_refused one i o path bytes FileTooLarge at small none quiet a = absurd (too_long i path bytes at small a.0)
tidy_refused one i o path bytes (NotElf g) at small none quiet a = absurd a.0
tidy_refused one i o path bytes NoFunction at small none quiet a = absurd a.0
tidy_refused one i o path bytes (Outside p) at small none quiet a = absurd a.0
tidy_refused one i o path bytes Usage at small none quiet a = absurd a.0

-- ---- texts that are known before

-- a text that is known before is written, or a front of it is
written : (s : Status) (o : Writing) (text : List ℕ) → Writes s o text
    → ((s ≡ Done) × Appends o.taken o.taken_now text) ⊎ ((s ≡ WriteFault) × StopsIn o text)
written Done o text w = inl (refl, w)
written WriteFault o text w = inr (refl, w)
written s o text w = absurd w

-- a text that is made first is written, or a front of it, or memory runs out
made_written : (P : List ℕ → Type 0) (s : Status) (o : Writing) → WritesMade P s o → (s ≡ Done) ⊎ ((s ≡ NoMemory) ⊎ ((s ≡ WriteFault) × Rose o.faults o.faults_now))
made_written P Done o w = inl refl
made_written P NoMemory o w = inr (inl refl)
made_written P WriteFault o w = inr (inr (refl, w.2.rose))
made_written P s o w = absurd w.0

pub each_cause_has_its_answer : OneFunction → OnePlace → EachCauseHasItsAnswer
each_cause_has_its_answer one_function one_refusal = record {
  usage = λ i o s a. a.0;
  unheld = λ i o c path s un e a. by_path ((s ≡ ReadFault) ⊎ (s ≡ NoMemory)) c s i o path e a
      (λ P f same b. fault_or_memory P i o f s (subst (λ p. IsUnheld i.held p) (sym same) un) b) (λ b. tidy_unheld i o path s un b);
  too_many = λ i o c path s few many e a. by_path ((s ≡ FileTooLarge) ⊎ (s ≡ NoMemory)) c s i o path e a
      (λ P f same b. many_or_memory P i o f s few many b) (λ b. tidy_many i o path s few many b);
  too_large = λ i o c path bytes s at long quiet e a. by_path ((s ≡ FileTooLarge) ⊎ (s ≡ NoMemory)) c s i o path e a
      (λ P f same b. long_or_memory P i o f bytes s (subst (λ p. HoldsAt i.held p bytes) (sym same) at) long quiet b) (λ b. tidy_long i o path bytes s at long quiet b);
  broken = λ i o c f bytes fault s at small image quiet e a.
      by_command ((s ≡ NotElf fault) ⊎ (s ≡ NoMemory)) c s i o f e a (λ P none b. broken_or_memory P i o f bytes fault s at small image quiet b);
  broken_sections = λ i o c f bytes m name fault s at small image named none quiet e a.
      by_command ((s ≡ NotElf fault) ⊎ (s ≡ NoMemory)) c s i o f e a
      (λ P made b. none_or_memory P i o f bytes (find.Elf fault) s at small (none_named bytes m f.func name (find.Elf fault) image named none) quiet b);
  no_function = λ i o c f bytes m name s at small image named none quiet e a.
      by_command ((s ≡ NoFunction) ⊎ (s ≡ NoMemory)) c s i o f e a
      (λ P made b. none_or_memory P i o f bytes find.NoFunction s at small (none_named bytes m f.func name find.NoFunction image named none) quiet b);
  outside = λ words i o c f bytes m r p s accepted named quiet a.
      by_command ((s ≡ Outside p) ⊎ (s ≡ NoMemory)) c s i o f accepted.function (subst (λ asked. Answers s i o asked) accepted.command a)
      (λ P none b. outside_or_memory P none i o f bytes m r p s accepted.held accepted.small accepted.found named quiet b);
  tidy = λ words i o path bytes f s asked at small stands quiet a. tidy_done one_function i o path bytes f s at small stands quiet (subst (λ c. Answers s i o c) asked a);
  not_profile = λ words i o path bytes s asked at small none quiet a. tidy_refused one_refusal i o path bytes s at small none quiet (subst (λ c. Answers s i o c) asked a);
  drill = λ words i o n s asked a. made_written (IsDrillLine n) s o (subst (λ c. Answers s i o c) asked a).writes;
  prelude = λ i o s a. written s o header_text a.writes;
  prelude_done = λ i o s quiet a. elim (written s o header_text a.writes) [ inl done ↦ done.0 | inr stopped ↦ absurd (quiet stopped.1.rose) ];
}
