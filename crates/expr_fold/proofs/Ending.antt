-- An end with delayed words in place leads where the end does.
use Rattle.std.proofs.Common.{◌≡◌, ◌⊎◌, inl, inr, ℕ, Bool, true, false, cond, nat_eq, not, ◌&&◌, List, [], ◌∷◌, Option, Some, None, map, refl, sym, ap, ◌∙◌, subst}
use Rattle.std.specs.Prelude.{IsTrue, Contains}
use Rattle.dream_words.specs.declared.machine.Name.{Name}
use Rattle.dream_words.specs.declared.outcome.Outcome.TheVariants as outcome
use Rattle.run_parts.specs.Steps.{Next, Halt, Jam, To, End, having}
use Rattle.run_parts.specs.World.{Names, World, regs_in, returned}
use Rattle.run_parts.specs.Effects.{Doing}
use Rattle.c_syntax.specs.Run.{word_in, holds}
use Rattle.micro_ir.specs.declared.flow.Case.{Case}
use Rattle.micro_ir.specs.declared.flow.End.{End as BlockEnd}
use Rattle.micro_ir.specs.declared.flow.End.TheVariants as end
use Rattle.micro_ir.specs.Checked.{nodes_of}
use Rattle.micro_ir.specs.Run.{branch, first_case, by_value, left_by, end_leads}
use Rattle.flow_passes.specs.Uses.{NameSet, same_name, is_register, is_flag, word_reads, end_reads}
use Rattle.flag_liveness.specs.Before.{live_at}
use Rattle.std.specs.List.{list_any}
use Rattle.std.proofs.lemmas.List.Folds.{list_any_at}
use Rattle.flow_passes.specs.Alike.{Alike, DoesAlike, ArrivesAlike}
use Rattle.flow_passes.proofs.Names.{or_left, or_right, same_regs, alike_by}
use Rattle.flow_passes.proofs.Statements.{call_alike}
use Rattle.std.proofs.lemmas.List.Elements.{Contains-append_left, Contains-append_right, Contains-push}
use Rattle.expr_fold.specs.declared.delayed.Delayed.{Delayed}
use Rattle.expr_fold.specs.Delayed.{is_delayed}
use Rattle.expr_fold.specs.Placed.{placed_word, placed_cond, placed_end}
use Rattle.expr_fold.specs.Follows.{Lags, Behind}
use Rattle.expr_fold.specs.Ends.{EndsWell, leaves_of, seen_after, none_seen_after}
use Rattle.expr_fold.proofs.Named.{same_true, true_or_false, or_false, and_true, not_true, not_both}
use Rattle.micro_ir.proofs.Values.{both_true}
use Rattle.expr_fold.proofs.Placing.{cond_placed}
use Rattle.expr_fold.proofs.Doing.{behind_names, value_lags}

-- the first of a list stands in it, and so does what stands in the rest
here : {A : Type 0} (x : A) (xs : List A) → Contains (x ∷ xs) x
here x xs = Contains-append_left (x ∷ []) xs x (Contains-push [] x)

there : {A : Type 0} (x : A) (xs : List A) (y : A) → Contains xs y → Contains (x ∷ xs) y
there x xs y h = Contains-append_right (x ∷ []) xs y h

branch_by : (live : ℕ → NameSet) (o p : Option Bool) (a b : ℕ) (w u : World) → p ≡ o → ArrivesAlike live (To a w) (To a u) → ArrivesAlike live (To b w) (To b u) → ArrivesAlike live (branch o a b w) (branch p a b u)
branch_by live None p a b w u e h g = tt
branch_by live (Some true) p a b w u e h g = subst (λ q. ArrivesAlike live (To a w) (branch q a b u)) (sym e) h
branch_by live (Some false) p a b w u e h g = subst (λ q. ArrivesAlike live (To b w) (branch q a b u)) (sym e) g

either_by : (live : ℕ → NameSet) (b : Bool) (x y a c : _) → ArrivesAlike live x y → ArrivesAlike live a c → ArrivesAlike live (cond b x a) (cond b y c)
either_by live true x y a c h g = h
either_by live false x y a c h g = g

cases_by : (live : ℕ → NameSet) (cases : List Case) (x : ℕ) (w u : World) → ((n : ℕ) → Contains (map (λ c. c.to) cases) n → ArrivesAlike live (To n w) (To n u)) → ArrivesAlike live (first_case cases x w) (first_case cases x u)
cases_by live [] x w u h = tt
cases_by live (c ∷ cases) x w u h =
    either_by live (nat_eq x c.value) (To c.to w) (To c.to u) _ _ (h c.to (here c.to (map (λ c. c.to) cases))) (cases_by live cases x w u (λ n t. h n (there c.to (map (λ c. c.to) cases) n t)))

value_by : (live : ℕ → NameSet) (o p : Option ℕ) (cases : List Case) (w u : World) → p ≡ o → ((n : ℕ) → Contains (map (λ c. c.to) cases) n → ArrivesAlike live (To n w) (To n u))
    → ArrivesAlike live (by_value o cases w) (by_value p cases u)
value_by live None p cases w u e h = tt
value_by live (Some x) p cases w u e h = subst (λ q. ArrivesAlike live (first_case cases x w) (by_value q cases u)) (sym e) (cases_by live cases x w u h)

-- the returned state
returned_same : (w u : World) → Alike is_register w u → returned u ≡ returned w
returned_same w u h =
    ap (λ r. outcome.Returned r u.mem u.calls) (same_regs w.names u.names h.names) ∙ ap (λ m. outcome.Returned (regs_in w.names) m u.calls) h.mem ∙ ap (λ c. outcome.Returned (regs_in w.names) w.mem c) h.calls

left_alike : (live : ℕ → NameSet) (d e : Doing) → DoesAlike is_register d e → ArrivesAlike live (left_by d) (left_by e)
left_alike live (Next w) e (u, d, al) = subst (λ x. ArrivesAlike live (End (returned w)) (left_by x)) (sym d) (ap (λ o. End o) (returned_same w u al))
left_alike live (Halt o) e h = subst (λ x. ArrivesAlike live (End o) (left_by x)) (sym h) refl
left_alike live Jam e h = tt

having_left : (live : ℕ → NameSet) (o p : Option ℕ) (k j : ℕ → Doing) → p ≡ o → ((x : ℕ) → DoesAlike is_register (k x) (j x)) → ArrivesAlike live (left_by (having o k)) (left_by (having p j))
having_left live None p k j e h = tt
having_left live (Some x) p k j e h = subst (λ q. ArrivesAlike live (left_by (k x)) (left_by (having q j))) (sym e) (left_alike live (k x) (j x) (h x))

-- where a node is come to
to_by : (live : ℕ → NameSet) (seen : NameSet) (p : List Delayed) (e : BlockEnd) (k : ℕ) (w : World) (v : Names) → EndsWell live seen p e → Contains (nodes_of e) k → Lags seen p w.names v
    → ArrivesAlike live (To k w) (To k (record w { names = v }))
to_by live seen p e k w v g t l = (record w { names = v }, refl, alike_by (live k) w v (λ n i. let j = g.targets k t n i in l.others n j.0 j.1))

leads_names : (live : ℕ → NameSet) (seen : NameSet) (p : List Delayed) (e : BlockEnd) (w : World) (v : Names) → EndsWell live seen p e → Lags seen p w.names v
    → ArrivesAlike live (end_leads e w) (end_leads (placed_end p e) (record w { names = v }))
leads_names live seen p (end.Go a) w v g l = to_by live seen p (end.Go a) a w v g (here a []) l
leads_names live seen p (end.Branch t a b) w v g l =
    branch_by live (holds t w) (holds (placed_cond p t) (record w { names = v })) a b w (record w { names = v }) (cond_placed p w.names v l.held t (λ n r f. l.others n (g.reads n r) f))
    (to_by live seen p (end.Branch t a b) a w v g (here a (b ∷ [])) l) (to_by live seen p (end.Branch t a b) b w v g (there a (b ∷ []) b (here b [])) l)
leads_names live seen p (end.Switch a cases) w v g l =
    value_by live (word_in a w) (word_in (placed_word p a) (record w { names = v })) cases w (record w { names = v }) (value_lags a seen p w.names v g.reads l)
    (λ k t. to_by live seen p (end.Switch a cases) k w v g t l)
leads_names live seen p end.Return w v g l =
    ap (λ o. End o) (returned_same w (record w { names = v }) (alike_by is_register w v (λ n t. l.others n (g.reads n t) (g.registers refl n t))))
leads_names live seen p (end.Leave a) w v g l =
    having_left live (word_in a w) (word_in (placed_word p a) (record w { names = v })) _ _ (value_lags a seen p w.names v (λ n r. g.reads n (or_right (is_register n) (word_reads a n) r)) l)
    (λ target. call_alike is_register target w v (λ n r. l.others n (g.reads n (or_left (is_register n) (word_reads a n) r)) (g.registers refl n r)) (λ n t. inl (or_left (is_register n) (is_flag n) t)))

pub end_behind : (live : ℕ → NameSet) (seen : NameSet) (p : List Delayed) (e : BlockEnd) (w u : World) → EndsWell live seen p e → Behind seen p w u → ArrivesAlike live (end_leads e w) (end_leads (placed_end p e) u)
end_behind live seen p e w u g b = subst (λ x. ArrivesAlike live (end_leads e w) (end_leads (placed_end p e) x)) (sym (behind_names seen p w u b)) (leads_names live seen p e w u.names g b.names)

-- ---- where no delayed name may be seen

any_contains : (p : ℕ → Bool) (xs : List ℕ) (x : ℕ) → Contains xs x → p x ≡ true → list_any p xs ≡ true
any_contains p xs x h t = list_any_at p xs h.0 x h.1 (ap p h.2 ∙ t)

-- a name that may be seen isn't one that may not
seen_apart : (seen : NameSet) (m n : Name) → seen m ≡ false → IsTrue (seen n) → (same_name m n ≡ true) ⊎ (same_name m n ≡ false) → same_name m n ≡ false
seen_apart seen m n f t (inl e) = absurd (not_both (seen n) t (ap seen (sym (same_true m n e)) ∙ f))
seen_apart seen m n f t (inr e) = e

seen_delayed : (live : ℕ → NameSet) (e : BlockEnd) (p : List Delayed) (n : Name) → IsTrue (none_seen_after e live p) → IsTrue (seen_after e live n) → is_delayed p n ≡ false
seen_delayed live e [] n h t = refl
seen_delayed live e (d ∷ ds) n h t =
    let k = both_true (not (seen_after e live d.name)) (none_seen_after e live ds) h in
    or_false (same_name d.name n) (is_delayed ds n) (seen_apart (seen_after e live) d.name n (not_true (seen_after e live d.name) k.0) t (true_or_false (same_name d.name n))) (seen_delayed live e ds n k.1 t)

pub ends_well : (live : ℕ → NameSet) (p : List Delayed) (e : BlockEnd) → IsTrue (none_seen_after e live p) → EndsWell live (live_at e live) p e
ends_well live p e h = record {
  reads = λ n t. or_left (end_reads e n) _ t;
  targets = λ k c n t.
      let any = any_contains (λ j. live j n) (nodes_of e) k c t in
      (or_right (end_reads e n) _ any, seen_delayed live e p n h (or_right (leaves_of e && is_register n) _ any));
  registers = λ l n t. seen_delayed live e p n h (or_left (leaves_of e && is_register n) _ (and_true (leaves_of e) (is_register n) l t));
}
