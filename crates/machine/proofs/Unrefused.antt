-- Where all pages are allowed the run is that of a machine without rights to pages.
use Rattle.std.proofs.Common.{◌≡◌, ℕ, zero, suc, ◌+◌, ◌%◌, ◌^◌, if◌then◌else◌, Bool, true, false, ◌&&◌, ◌||◌, List, [], ◌∷◌, Option, Some, None, refl, ap, ◌∙◌}
use Rattle.std.specs.Prelude.{is_none}
use Rattle.elf_image.specs.Range.{is_inside}
use Rattle.dream_words.specs.declared.outcome.Answer.{Answer}
use Rattle.dream_words.specs.declared.outcome.Call.{Call}
use Rattle.dream_words.specs.Pages.{every_page, all_pages, AllPagesAllowAll}
use Rattle.dream_words.specs.Memory.{bytes_of}
use Rattle.x86_inst.specs.declared.Inst.{Inst}
use Rattle.x86_model.specs.declared.effect.Access.{Access}
use Rattle.x86_model.specs.declared.effect.Effect.{Effect}
use Rattle.x86_model.specs.declared.effect.Stored.{Stored}
use Rattle.x86_model.specs.declared.effect.Go.{Go}
use Rattle.x86_model.specs.declared.effect.Go.TheVariants as go
use Rattle.x86_model.specs.Machine.{Onward, At, Finished, Strays, Blank, State, Ending}
use Rattle.x86_model.specs.Leads.{answered_or, leads, stored, after, first_of, refused, refused_read, refused_word, refused_store, allowed, step_does, effect_in}
use Rattle.x86_model.specs.Reads.{reads_of}
use Rattle.x86_model.specs.Undefined.{reads_undefined, is_stray}
use Rattle.machine.specs.Steps.{go_on, judged, steps}
use Rattle.machine.specs.Code.{is_broken}
use Rattle.machine.specs.Run.{Scene, scene_of, start_state, outcome_of, answer_breaks, takes_broken, goes_middle, returns_elsewhere, acts, act, step_at}
use Rattle.machine.specs.Free.{freely_strays, freely_acts, freely_act, free_step, AllPagesAreFree}

-- ---- states that keep all pages

-- where the run goes on all pages are allowed
abbrev Keeps : Onward State Ending → Type 0
Keeps (At a m) = m.pages ≡ all_pages
Keeps (Finished e) = Unit {0}
Keeps Strays = Unit {0}
Keeps Blank = Unit {0}

answered_keeps : (left : List Answer) (calls : List Call) (k : Answer → List Answer → Onward State Ending) → ((x : Answer) (rest : List Answer) → Keeps (k x rest)) → Keeps (answered_or left calls k)
answered_keeps [] calls k h = tt
answered_keeps (a ∷ rest) calls k h = h a rest

leads_keeps : (g : Go) (at next : ℕ) (m : State) → m.pages ≡ all_pages → Keeps (leads g at next m)
leads_keeps go.Next at next m h = h
leads_keeps go.Again at next m h = h
leads_keeps (go.To a) at next m h = h
leads_keeps (go.CallTo a) at next m h = answered_keeps m.left _ _ (λ x rest. h)
leads_keeps (go.LeaveTo a) at next m h = answered_keeps m.left _ _ (λ x rest. tt)
leads_keeps go.Return at next m h = tt
leads_keeps (go.Fault v) at next m h = tt
leads_keeps go.Stray at next m h = tt

judged_keeps : (t : Bool) (r : Onward State Ending) → Keeps r → Keeps (judged t r)
judged_keeps true r h = tt
judged_keeps false r h = h

act_keeps : (sc : Scene) (at : ℕ) (m : State) (d : Option (Inst × ℕ)) → m.pages ≡ all_pages → Keeps (freely_act sc at m d)
act_keeps sc at m None h = tt
act_keeps sc at m (Some d) h =
    let next : ℕ = (at + d.1) % 2 ^ 32 in
    let e : Effect = effect_in d.0 next m in
    judged_keeps (freely_strays sc d.0 m e) (leads e.go at next (after e m)) (leads_keeps e.go at next (after e m) h)

if_keeps : (t : Bool) (x y : Onward State Ending) → Keeps x → Keeps y → Keeps (if t then x else y)
if_keeps true x y h k = h
if_keeps false x y h k = k

step_keeps : (sc : Scene) (at : ℕ) (m : State) → m.pages ≡ all_pages → Keeps (free_step sc at m)
step_keeps sc at m h =
    let out : Onward State Ending = leads (go.LeaveTo at) at at m in
    let broken : Bool = answer_breaks sc m.left m.mem in
    if_keeps (is_inside sc.range at) (freely_act sc at m (sc.decoded at)) (judged broken out)
    (act_keeps sc at m (sc.decoded at) h) (judged_keeps broken out (leads_keeps (go.LeaveTo at) at at m h))

module _ (allow : AllPagesAllowAll) where
  -- ---- no access is refused

  none_read : (a : Option Access) → refused every_page a ≡ None
  none_read None = refl
  none_read (Some a) = allow a.at (bytes_of a.width)

  none_stored : (s : Option Stored) → refused_word every_page s ≡ None
  none_stored None = refl
  none_stored (Some s) = allow s.at (bytes_of s.width)

  no_read : (i : Inst) (m : State) → m.pages ≡ all_pages → refused_read i m ≡ None
  no_read i m h =
      let r = reads_of i m.regs m.fs m.gs in
      ap (λ p. first_of (refused p.read r.first) (refused p.read r.second)) h
      ∙ ap (λ a. first_of a (refused every_page r.second)) (none_read r.first)
      ∙ none_read r.second

  no_store : (e : Effect) (m : State) → m.pages ≡ all_pages → refused_store e m ≡ None
  no_store e m h = ap (λ p. refused_word p.write e.store) h ∙ none_stored e.store

  -- ---- a step

  acts_freely : (sc : Scene) (i : Inst) (at next : ℕ) (m : State) → m.pages ≡ all_pages → acts sc i at next m ≡ freely_acts sc i at next m
  acts_freely sc i at next m h =
      let e : Effect = effect_in i next m in
      let breaks : Bool = is_broken sc.image sc.slot m.mem (stored m.mem e.store) || takes_broken sc m e.go in
      let read : refused_read i m ≡ None = no_read i m h in
      let store : refused_store e m ≡ None = no_store e m h in
      ap (λ a. judged (((is_none a && is_none (refused_store e m)) && breaks) || (returns_elsewhere sc m e.go || (reads_undefined i m.flags || (is_none a && (is_stray e.go || goes_middle sc i e.go))))) (allowed a m (step_does e at next m))) read
      ∙ ap (λ a. judged ((is_none a && breaks) || (returns_elsewhere sc m e.go || (reads_undefined i m.flags || (is_stray e.go || goes_middle sc i e.go)))) (allowed a m (leads e.go at next (after e m)))) store

  act_freely : (sc : Scene) (at : ℕ) (m : State) (d : Option (Inst × ℕ)) → m.pages ≡ all_pages → act sc at m d ≡ freely_act sc at m d
  act_freely sc at m None h = refl
  act_freely sc at m (Some d) h = acts_freely sc d.0 at ((at + d.1) % 2 ^ 32) m h

  step_freely : (sc : Scene) (at : ℕ) (m : State) → m.pages ≡ all_pages → step_at sc at m ≡ free_step sc at m
  step_freely sc at m h =
      ap (λ x. if is_inside sc.range at then x else judged (answer_breaks sc m.left m.mem) (leads (go.LeaveTo at) at at m)) (act_freely sc at m (sc.decoded at) h)

  -- ---- a run

  module _ (sc : Scene) where
    on_freely : (o : Onward State Ending) (f g : ℕ → State → Onward State Ending) → Keeps o → ((a : ℕ) (m : State) → m.pages ≡ all_pages → f a m ≡ g a m) → go_on o f ≡ go_on o g
    on_freely (At a m) f g h same = same a m h
    on_freely (Finished e) f g h same = refl
    on_freely Strays f g h same = refl
    on_freely Blank f g h same = refl

    runs_freely : (n at : ℕ) (m : State) → m.pages ≡ all_pages → steps State Ending (step_at sc) n at m ≡ steps State Ending (free_step sc) n at m
    runs_freely zero at m h = refl
    runs_freely (suc n) at m h =
        ap (λ o. go_on o (steps State Ending (step_at sc) n)) (step_freely sc at m h)
        ∙ on_freely (free_step sc at m) (steps State Ending (step_at sc) n) (steps State Ending (free_step sc) n) (step_keeps sc at m h) (runs_freely n)

  pub all_pages_are_free : AllPagesAreFree
  all_pages_are_free m r decoded start answers n h =
      ap outcome_of (runs_freely (scene_of m r decoded start) n r.entry (start_state start answers) h)
