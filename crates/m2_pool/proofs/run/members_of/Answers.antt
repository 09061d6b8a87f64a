use Rattle.std.proofs.Common.{◌≡◌, [], ◌∷◌, ◌++◌, map, sym, ap, ◌∙◌, arith, append_assoc}
use Rattle.std.proofs.lemmas.Grind.{common_steps}
use Rattle.std.proofs.lemmas.List.Elements.{All-push}
use mathlib.Core.List.{map-append}
use Rattle.m2_pool.proofs.run.members_of.Goals as goal

pub loop-seat-preserved : goal.loop-seat-preserved
loop-seat-preserved g c =
    let head = c.in-Some.ensures.steps.0 in
    record {
      rest_is = append_assoc c.loop-seat.yielded (c.in-Some.seat ∷ []) _
          ∙ (ap (λ l. c.loop-seat.yielded ++ l) (sym head) ∙ c.loop-seat.invariant.rest_is);
      length_is = grind (arith, common_steps);
      owns_are = grind (arith, common_steps);
      members_are = ap (map (λ m. m.seat)) c.in_ok-push.ensures.items
          ∙ (map-append (λ m. m.seat) c.loop-seat.members.items _
          ∙ ap (λ l. l ++ c.in-Some.seat ∷ []) c.loop-seat.invariant.members_are);
      new = rw c.in_ok-push.ensures.items (All-push (λ m. m.ran.items ≡ []) c.loop-seat.members.items _
          c.loop-seat.invariant.new c.new.ensures.items);
    }
