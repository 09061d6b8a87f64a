use Rattle.std.proofs.Common.{Bool, List, ap, sym, ◌∙◌}
use Rattle.std.specs.Prelude.{cond}
use Rattle.std.specs.List.{filter, list_any}
use Rattle.std.proofs.lemmas.List.Elements.{filter_from_retain}
use Rattle.m2_tree.specs.declared.refusal.Refusal.{Refusal}
use Rattle.compile_module.specs.Stands.{is_told}
use Rattle.compile_module.proofs.stands.without_stands.Goals as goal

abbrev of : List Refusal → Bool → List Refusal
of rs b = cond b (filter is_told rs) rs

pub returns-then-has_told : goal.returns-then-has_told
returns-then-has_told c = filter_from_retain _ is_told (λ p x b q h. h.called.met ∙ ap is_told h.shows) _ _ _
    c.retain.ensures.filtered ∙ sym (ap (of c.args.found.items)
    (ap (list_any is_told) (sym c.deref.ensures.value) ∙ sym c.has_told.ensures ∙ c.if-has_told.true))
