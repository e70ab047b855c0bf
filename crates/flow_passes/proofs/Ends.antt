-- An end leads alike from worlds that are alike in what it reads, and in what is seen where it leads.
use Rattle.std.proofs.Common.{◌≡◌, inl, ℕ, Bool, true, false, cond, nat_eq, List, [], ◌∷◌, Option, Some, None, map, refl, sym, ap, ◌∙◌, subst}
use Rattle.std.specs.Prelude.{Contains}
use Rattle.std.proofs.lemmas.List.Elements.{Contains-append_left, Contains-append_right, Contains-push}
use Rattle.dream_words.specs.declared.outcome.Outcome.TheVariants as outcome
use Rattle.run_parts.specs.Steps.{Next, Halt, Jam, To, End, having}
use Rattle.run_parts.specs.World.{Names, World, regs_in, returned}
use Rattle.run_parts.specs.Effects.{Doing}
use Rattle.c_syntax.specs.Run.{word_in, holds}
use Rattle.micro_ir.specs.declared.flow.Case.{Case}
use Rattle.micro_ir.specs.declared.flow.End.{End as BlockEnd}
use Rattle.micro_ir.specs.declared.flow.End.TheVariants as end
use Rattle.micro_ir.specs.Checked.{nodes_of}
use Rattle.micro_ir.specs.Run.{branch, first_case, by_value, left_by, end_leads}
use Rattle.flow_passes.specs.Uses.{NameSet, is_register, is_flag, word_reads, end_reads}
use Rattle.flow_passes.specs.Alike.{Alike, DoesAlike, ArrivesAlike}
use Rattle.flow_passes.specs.Laws.{Within, SameNames, EndsSee}
use Rattle.flow_passes.proofs.Names.{or_left, or_right, same_regs, but_names, alike_by}
use Rattle.flow_passes.proofs.Reading.{same_value, same_truth}
use Rattle.flow_passes.proofs.Statements.{value_seen, call_alike}

-- the first of a list stands in it, and so does what stands in the rest
here : {A : Type 0} (x : A) (xs : List A) → Contains (x ∷ xs) x
here x xs = Contains-append_left (x ∷ []) xs x (Contains-push [] x)

there : {A : Type 0} (x : A) (xs : List A) (y : A) → Contains xs y → Contains (x ∷ xs) y
there x xs y h = Contains-append_right (x ∷ []) xs y h

-- where a node is come to
to_alike : (seen : ℕ → NameSet) (a : ℕ) (before : NameSet) (w : World) (v : Names) → Within (seen a) before → SameNames before w.names v → ArrivesAlike seen (To a w) (To a (record w { names = v }))
to_alike seen a before w v i s = (record w { names = v }, refl, alike_by (seen a) w v (λ n t. s n (i n t)))

branch_alike : (seen : ℕ → NameSet) (o p : Option Bool) (a b : ℕ) (before : NameSet) (w : World) (v : Names) → p ≡ o → Within (seen a) before → Within (seen b) before → SameNames before w.names v
    → ArrivesAlike seen (branch o a b w) (branch p a b (record w { names = v }))
branch_alike seen None p a b before w v e i j s = tt
branch_alike seen (Some true) p a b before w v e i j s = subst (λ q. ArrivesAlike seen (To a w) (branch q a b (record w { names = v }))) (sym e) (to_alike seen a before w v i s)
branch_alike seen (Some false) p a b before w v e i j s = subst (λ q. ArrivesAlike seen (To b w) (branch q a b (record w { names = v }))) (sym e) (to_alike seen b before w v j s)

or_alike : (seen : ℕ → NameSet) (b : Bool) (x y a c : _) → ArrivesAlike seen x y → ArrivesAlike seen a c → ArrivesAlike seen (cond b x a) (cond b y c)
or_alike seen true x y a c h g = h
or_alike seen false x y a c h g = g

cases_alike : (seen : ℕ → NameSet) (cases : List Case) (x : ℕ) (before : NameSet) (w : World) (v : Names) → ((n : ℕ) → Contains (map (λ c. c.to) cases) n → Within (seen n) before) → SameNames before w.names v
    → ArrivesAlike seen (first_case cases x w) (first_case cases x (record w { names = v }))
cases_alike seen [] x before w v i s = tt
cases_alike seen (c ∷ cases) x before w v i s =
    or_alike seen (nat_eq x c.value) (To c.to w) (To c.to (record w { names = v })) _ _ (to_alike seen c.to before w v (i c.to (here c.to (map (λ c. c.to) cases))) s)
    (cases_alike seen cases x before w v (λ n t. i n (there c.to (map (λ c. c.to) cases) n t)) s)

value_alike : (seen : ℕ → NameSet) (o p : Option ℕ) (cases : List Case) (before : NameSet) (w : World) (v : Names) → p ≡ o → ((n : ℕ) → Contains (map (λ c. c.to) cases) n → Within (seen n) before) → SameNames before w.names v
    → ArrivesAlike seen (by_value o cases w) (by_value p cases (record w { names = v }))
value_alike seen None p cases before w v e i s = tt
value_alike seen (Some x) p cases before w v e i s = subst (λ q. ArrivesAlike seen (first_case cases x w) (by_value q cases (record w { names = v }))) (sym e) (cases_alike seen cases x before w v i s)

-- the returned state
returned_same : (w u : World) → Alike is_register w u → returned u ≡ returned w
returned_same w u h =
    ap (λ r. outcome.Returned r u.mem u.calls) (same_regs w.names u.names h.names) ∙ ap (λ m. outcome.Returned (regs_in w.names) m u.calls) h.mem ∙ ap (λ c. outcome.Returned (regs_in w.names) w.mem c) h.calls

left_alike : (seen : ℕ → NameSet) (d e : Doing) → DoesAlike is_register d e → ArrivesAlike seen (left_by d) (left_by e)
left_alike seen (Next w) e (u, d, al) = subst (λ x. ArrivesAlike seen (End (returned w)) (left_by x)) (sym d) (ap (λ o. End o) (returned_same w u al))
left_alike seen (Halt o) e h = subst (λ x. ArrivesAlike seen (End o) (left_by x)) (sym h) refl
left_alike seen Jam e h = tt

having_left : (seen : ℕ → NameSet) (o p : Option ℕ) (k j : ℕ → Doing) → p ≡ o → ((x : ℕ) → DoesAlike is_register (k x) (j x)) → ArrivesAlike seen (left_by (having o k)) (left_by (having p j))
having_left seen None p k j e h = tt
having_left seen (Some x) p k j e h = subst (λ q. ArrivesAlike seen (left_by (k x)) (left_by (having q j))) (sym e) (left_alike seen (k x) (j x) (h x))

by_names : (e : BlockEnd) (before : NameSet) (seen : ℕ → NameSet) (w : World) (v : Names) → Within (end_reads e) before → ((n : ℕ) → Contains (nodes_of e) n → Within (seen n) before) → SameNames before w.names v
    → ArrivesAlike seen (end_leads e w) (end_leads e (record w { names = v }))
by_names (end.Go a) before seen w v i h s = to_alike seen a before w v (h a (here a [])) s
by_names (end.Branch t a b) before seen w v i h s =
    branch_alike seen (holds t w) (holds t (record w { names = v })) a b before w v (same_truth t w.names v (λ n r. s n (i n r))) (h a (here a (b ∷ []))) (h b (there a (b ∷ []) b (here b []))) s
by_names (end.Switch a cases) before seen w v i h s =
    value_alike seen (word_in a w) (word_in a (record w { names = v })) cases before w v (same_value a w.names v (value_seen a before w.names v i s)) h s
by_names end.Return before seen w v i h s = ap (λ o. End o) (returned_same w (record w { names = v }) (alike_by is_register w v (λ n t. s n (i n t))))
by_names (end.Leave a) before seen w v i h s =
    having_left seen (word_in a w) (word_in a (record w { names = v })) _ _ (same_value a w.names v (value_seen a before w.names v (λ n r. i n (or_right (is_register n) (word_reads a n) r)) s))
    (λ target. call_alike is_register target w v (λ n r. s n (i n (or_left (is_register n) (word_reads a n) r))) (λ n t. inl (or_left (is_register n) (is_flag n) t)))

pub ends_see : EndsSee
ends_see e before seen w u i h al = subst (λ x. ArrivesAlike seen (end_leads e w) (end_leads e x)) (sym (but_names before w u al)) (by_names e before seen w u.names i h al.names)
