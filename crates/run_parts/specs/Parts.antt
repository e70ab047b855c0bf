-- What a part of a program does: a function from the loop turns that may still be made, and the state, to its run.
-- Texts, trees and flows are told in these parts, for any type of states S and any type of ends E.
use Rattle.std.specs.Prelude.{ℕ, zero, suc, nat_eq, Bool, true, false, if◌then◌else◌, List, [], ◌∷◌, Option, Some, None}

-- How a part ends: at its own end, by a break out of it, with the whole run, or stuck.
pub data Exit (S E : Type 0) : Type 0 where
  Past : S → Exit S E
  Broke : S → Exit S E
  Over : E → Exit S E
  Stuck : Exit S E

-- The run of a part: it ends, with so many turns left over, or it goes on where one more turn was needed.
pub data Run (S E : Type 0) : Type 0 where
  Ends : Exit S E → ℕ → Run S E
  Goes : S → Run S E

-- A part, from the turns that may be made and the state in which it begins.
abbrev pub Part : Type 0 → Type 0 → Type 0
Part S E = ℕ → S → Run S E

-- A test of a state. None where it is stuck.
abbrev pub Test : Type 0 → Type 0
Test S = S → Option Bool

-- the test that always holds
abbrev pub always : {S : Type 0} → Test S
always s = Some true

-- ---- one after another

-- nothing
abbrev pub skip : {S E : Type 0} → Part S E
skip m s = Ends (Past s) m

-- a break
abbrev pub leave_loop : {S E : Type 0} → Part S E
leave_loop m s = Ends (Broke s) m

-- one more turn is needed
abbrev pub goes_on : {S E : Type 0} → Part S E
goes_on m s = Goes s

-- what comes after a run has ended
abbrev pub on : {S E : Type 0} → Run S E → (Exit S E → ℕ → Run S E) → Run S E
on (Ends x m) f = f x m
on (Goes t) f = Goes t

-- the second part follows where the first came to its end
abbrev pub after : {S E : Type 0} → Part S E → Exit S E → ℕ → Run S E
after b (Past t) m = b m t
after b (Broke t) m = Ends (Broke t) m
after b (Over e) m = Ends (Over e) m
after b Stuck m = Ends Stuck m

-- one part and then another
abbrev pub seq : {S E : Type 0} → Part S E → Part S E → Part S E
seq a b m s = on (a m s) (after b)

-- parts one after another
abbrev pub in_turn : {S E : Type 0} → List (Part S E) → Part S E
in_turn [] = skip
in_turn (a ∷ rest) = seq a (in_turn rest)

-- ---- one of several

-- one of two parts, by what a test gave
abbrev pub decide : {S E : Type 0} → Option Bool → Part S E → Part S E → Part S E
decide None a b m s = Ends Stuck m
decide (Some true) a b m s = a m s
decide (Some false) a b m s = b m s

-- one of two parts, by a test
abbrev pub choose : {S E : Type 0} → Test S → Part S E → Part S E → Part S E
choose t a b m s = decide (t s) a b m s

-- The first arm whose test holds, else the last part. No test after it is evaluated.
abbrev pub first_arm : {S E : Type 0} → List (Test S × Part S E) → Part S E → Part S E
first_arm [] last = last
first_arm (arm ∷ arms) last = choose arm.0 arm.1 (first_arm arms last)

-- a break ends here
abbrev pub caught : {S E : Type 0} → Exit S E → ℕ → Run S E
caught (Past t) m = Ends (Past t) m
caught (Broke t) m = Ends (Past t) m
caught (Over e) m = Ends (Over e) m
caught Stuck m = Ends Stuck m

-- a part whose breaks end at its end
abbrev pub catch_break : {S E : Type 0} → Part S E → Part S E
catch_break a m s = on (a m s) caught

-- the number stands in the list
abbrev pub has : List ℕ → ℕ → Bool
has [] x = false
has (y ∷ ys) x = if nat_eq x y then true else has ys x

-- the part of the first group among whose values the number stands, else the last part
abbrev pub group_of : {S E : Type 0} → List (List ℕ × Part S E) → Part S E → ℕ → Part S E
group_of [] last x m s = last m s
group_of (group ∷ groups) last x m s = if has group.0 x then group.1 m s else group_of groups last x m s

-- a part that is chosen by a word; stuck where the word is
abbrev pub given : {S E : Type 0} → Option ℕ → (ℕ → Part S E) → Part S E
given None f m s = Ends Stuck m
given (Some x) f m s = f x m s

-- The group of a word's value runs, else the last part, and a break ends it.
abbrev pub switch : {S E : Type 0} → (S → Option ℕ) → List (List ℕ × Part S E) → Part S E → Part S E
switch w groups last = catch_break (λ m s. given (w s) (group_of groups last) m s)

-- ---- loops

-- A round is over: another begins where the test after it holds, and a break ends the loop.
abbrev pub round : {S E : Type 0} → Test S → Part S E → Exit S E → ℕ → Run S E
round again next (Past t) m = decide (again t) next skip m t
round again next (Broke t) m = Ends (Past t) m
round again next (Over e) m = Ends (Over e) m
round again next Stuck m = Ends Stuck m

-- one round, which takes a turn, and what comes next
abbrev pub turn : {S E : Type 0} → Part S E → Test S → Part S E → Part S E
turn body again next zero s = Goes s
turn body again next (suc m) s = on (body m s) (round again next)

-- at most so many rounds, each of them begun by a test
abbrev pub rounds : {S E : Type 0} → ℕ → Test S → Part S E → Test S → Part S E
rounds zero enter body again m s = decide (enter s) goes_on skip m s
rounds (suc g) enter body again m s = decide (enter s) (turn body again (rounds g enter body again)) skip m s

-- A loop with a test before its body and a test after it. Each entry into the body takes a turn, so no more rounds
-- begin than turns may be made.
abbrev pub repeat : {S E : Type 0} → Test S → Part S E → Test S → Part S E
repeat enter body again m s = rounds m enter body again m s
