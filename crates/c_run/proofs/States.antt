-- The state after an answered call, read as a world.
use Rattle.std.proofs.Common.{◌≡◌, ℕ, suc, ◌+◌, ◌<◌, List, [], ◌∷◌, ◌++◌, length, get_or, drop, drop-cons, sym, ap, ◌∙◌, refl, arith, length-append}
use Rattle.std.proofs.Math.Path.{fun_ext}
use Rattle.dream_words.specs.declared.machine.Name.{Name}
use Rattle.dream_words.specs.declared.machine.Name.TheVariants as name
use Rattle.dream_words.specs.declared.outcome.Answer.{Answer}
use Rattle.dream_words.specs.declared.outcome.Call.{Call}
use Rattle.dream_words.specs.Memory.{Mem}
use Rattle.run_parts.specs.Parts.{Ends, Past}
use Rattle.run_parts.specs.Steps.{done}
use Rattle.run_parts.specs.World.{Names, answered}
use Rattle.run_parts.specs.Effects.{calling, answered_by}
use Rattle.c_run.specs.declared.env.FlagWords.{FlagWords}
use Rattle.c_run.specs.declared.env.Env.{Env}
use Rattle.c_run.specs.declared.state.State.{State}
use Rattle.c_run.specs.Env.{names_of}
use Rattle.c_run.specs.State.{after_calls, flag_words, world_of}

-- a list from a place on begins with what stands there
pub drop_here : {X : Type 0} (i : ℕ) (xs : List X) (a : X) → i < length xs → a ≡ get_or xs i a → drop i xs ≡ a ∷ drop (i + 1) xs
drop_here i xs a l e =
    let s : suc i ≡ i + 1 = omega arith in
    drop-cons xs i a l ∙ ap (λ k. get_or xs i a ∷ drop k xs) s ∙ ap (λ x. x ∷ drop (i + 1) xs) (sym e)

-- the names after an answer: registers and flags are the answer's
names_answered : (v : Env) (a : Answer) (n : Name) → names_of (record v { regs = a.regs; flags = flag_words a.flags }) n ≡ answered a (names_of v) n
names_answered v a (name.Reg n) = refl
names_answered v a (name.Flag n) = refl
names_answered v a name.Fs = refl
names_answered v a name.Gs = refl
names_answered v a (name.T n) = refl
names_answered v a (name.B n) = refl
names_answered v a (name.S n) = refl

-- one more call
length_more : (calls : List Call) (c : Call) → length (calls ++ c ∷ []) ≡ length calls + 1
length_more calls c = length-append calls (c ∷ [])

-- an answered call
answered_is : (answers : List Answer) (target m : ℕ) (s : State) (a : Answer) → drop (length s.calls) answers ≡ a ∷ drop (length s.calls + 1) answers
    → Ends (Past (world_of (after_calls answers) (record s { env = record s.env { regs = a.regs; flags = flag_words a.flags }; mem = a.mem; calls = s.calls ++ record { target = target; regs = s.env.regs; mem = s.mem } ∷ [] }))) m
    ≡ done (calling target (world_of (after_calls answers) s)) m
answered_is answers target m s a e =
    ap (λ (v : Names). Ends (Past (record (world_of (after_calls answers) s) { names = v; mem = a.mem; left = drop (length (s.calls ++ call ∷ [])) answers; calls = s.calls ++ call ∷ [] })) m) (fun_ext (names_answered s.env a))
    ∙ ap (λ k. Ends (Past (record (world_of (after_calls answers) s) { names = answered a (names_of s.env); mem = a.mem; left = drop k answers; calls = s.calls ++ call ∷ [] })) m) (length_more s.calls call)
    ∙ ap (λ l. done (answered_by l (s.calls ++ call ∷ []) (world_of (after_calls answers) s)) m) (sym e)
  where
    call : Call
    call = record { target = target; regs = s.env.regs; mem = s.mem }

-- the same, where its parts are given
pub answered_parts : (answers : List Answer) (target m : ℕ) (s : State) (a : Answer) (flags : FlagWords) (mem : Mem) (call : Call) (calls : List Call) → drop (length s.calls) answers ≡ a ∷ drop (length s.calls + 1) answers
    → flags ≡ flag_words a.flags → mem ≡ a.mem → calls ≡ s.calls ++ call ∷ [] → call ≡ record { target = target; regs = s.env.regs; mem = s.mem }
    → Ends (Past (world_of (after_calls answers) (record s { env = record s.env { regs = a.regs; flags = flags }; mem = mem; calls = calls }))) m ≡ done (calling target (world_of (after_calls answers) s)) m
answered_parts answers target m s a flags mem call calls g ef em ec el =
    ap (λ f. Ends (Past (world_of (after_calls answers) (record s { env = record s.env { regs = a.regs; flags = f }; mem = mem; calls = calls }))) m) ef
    ∙ ap (λ x. Ends (Past (world_of (after_calls answers) (record s { env = record s.env { regs = a.regs; flags = flag_words a.flags }; mem = x; calls = calls }))) m) em
    ∙ ap (λ x. Ends (Past (world_of (after_calls answers) (record s { env = record s.env { regs = a.regs; flags = flag_words a.flags }; mem = a.mem; calls = x }))) m) (ec ∙ ap (λ l. s.calls ++ l ∷ []) el)
    ∙ answered_is answers target m s a g
