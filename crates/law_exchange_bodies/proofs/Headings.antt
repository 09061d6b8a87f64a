-- Headings of check_block, with other numbers of modules.
use Rattle.check_block.specs.Agreeing.{signature_of}
use Rattle.check_block.specs.Headings.{standing_of, with_heading, standing_elaborated, standing_known, name_standing, new_procedure, reported_of_other, standing_from, with_new, module_procedure, with_awaited, headed_as, nested_meaning, nothing_made, set_heading}
use Rattle.check_block.specs.declared.heading.Standing.{Standing}
use Rattle.check_block.specs.declared.heading.Standing.TheVariants.{Free, Awaited, Taken}
use Rattle.check_scope.specs.Elaborated.{Gathers}
use Rattle.check_scope.specs.declared.known.Known.{Known}
use Rattle.check_scope.specs.declared.known.Known.TheVariants.{Later, Ahead, Begun, Headed, Declared}
use Rattle.check_scope.specs.declared.known.Origin.{Origin}
use Rattle.check_scope.specs.declared.known.Origin.TheVariants.{Here, Module, Export}
use Rattle.check_scope.specs.declared.meaningless.Meaningless.{Meaningless}
use Rattle.check_scope.specs.declared.scope.Scope.{Scope}
use Rattle.def_exchange.specs.Moved.{moved_made, moved_meaning, moved_procedure, moved_type, moved_types, Exchange}
use Rattle.law_exchange_bodies.proofs.Agreeing.{agree_moves, signature_of_moves}
use Rattle.law_exchange_bodies.proofs.Declaring.{procedure_meaning_moves, with_procedure_type_moves}
use Rattle.law_exchange_types.proofs.Headings.{heading_of_moves}
use Rattle.law_exchange_types.proofs.MadePieces.{with_made_moves, nothing_of_moves}
use Rattle.law_exchange_bodies.specs.Modules.{moved_standing}
use Rattle.law_exchange_types.proofs.Basics.{then_map, map_then, cond_scope, find_moves as find_name_moves}
use Rattle.law_exchange_types.proofs.InScope.{with_known_moves, heading_means_moves}
use Rattle.law_exchange_types.proofs.Known.{made_at_moves}
use Rattle.law_exchange_types.specs.Pieces.{map_ok}
use Rattle.law_exchange_types.specs.Scopes.{moved_known, moved_scope, moved_state}
use Rattle.m2_tree.specs.declared.decl.Heading.{Heading}
use Rattle.m2_tree.specs.declared.pos.Pos.{Pos}
use Rattle.std.proofs.Common.{◌≡◌, refl, Err, List, None, Ok, Option, Result, Some, option_map, ℕ}
use Rattle.std.proofs.lemmas.List.{length-map}
use Rattle.typed_tree.specs.Known.{made_at}
use Rattle.typed_tree.specs.declared.known_types.Types.{Types}
use Rattle.typed_tree.specs.declared.meaning.Meaning.{Meaning}
use Rattle.typed_tree.specs.declared.meaning.Procedure.{Procedure}
use Rattle.typed_tree.specs.declared.shape.Made.{Made}
use Rattle.typed_tree.specs.declared.types.TypeNo.{TypeNo}
use Rattle.typed_tree.specs.declared.meaning.Meaning.TheVariants as meaning

pub standing_of_moves : (z : Exchange) (m : Meaning)
    → standing_of (moved_meaning z m) ≡ moved_standing z (standing_of m)
standing_of_moves z (meaning.Procedure p) = refl
standing_of_moves z (meaning.Constant v) = refl
standing_of_moves z (meaning.Type t n) = refl
standing_of_moves z (meaning.Variable v) = refl
standing_of_moves z (meaning.Local v) = refl
standing_of_moves z (meaning.Field f) = refl
standing_of_moves z (meaning.LocalProcedure p) = refl
standing_of_moves z meaning.Ahead = refl
standing_of_moves z (meaning.Standard f) = refl
standing_of_moves z (meaning.Module k) = refl

pub standing_elaborated_moves : (z : Exchange) {T : Type 0} (m : Result Meaning T)
    → standing_elaborated (map_ok (moved_meaning z) m) ≡ moved_standing z (standing_elaborated m)
standing_elaborated_moves z (Ok m) = standing_of_moves z m
standing_elaborated_moves z (Err e) = refl

pub standing_from_moves : (z : Exchange) {T : Type 0} (o : Origin) (m : Result Meaning T)
    → standing_from o (map_ok (moved_meaning z) m) ≡ moved_standing z (standing_from o m)
standing_from_moves z Here m = standing_elaborated_moves z m
standing_from_moves z (Module k) m = refl
standing_from_moves z (Export k) m = refl

pub standing_known_moves : (z : Exchange) {T : Type 0} (k : Known T)
    → standing_known (moved_known z k) ≡ moved_standing z (standing_known k)
standing_known_moves z Later = refl
standing_known_moves z Ahead = refl
standing_known_moves z Begun = refl
standing_known_moves z (Headed m) = refl
standing_known_moves z (Declared o m) = standing_from_moves z o m

pub name_standing_moves : (z : Exchange) {T : Type 0} (k : Option (Known T))
    → name_standing (option_map (moved_known z) k) ≡ moved_standing z (name_standing k)
name_standing_moves z None = refl
name_standing_moves z (Some k) = standing_known_moves z k

pub nested_meaning_moves : (z : Exchange) {T : Type 0} (level : ℕ) (number : ℕ) (t : Result TypeNo T)
    → nested_meaning level number (map_ok (moved_type z) t) ≡ map_ok (moved_meaning z) (nested_meaning level number t)
nested_meaning_moves z level n t = simp (then_map, map_then)

pub set_heading_moves : (z : Exchange) {T : Type 0} (name : List ℕ) (m : Result Meaning (Meaningless T)) (s : Scope T)
    → set_heading name (map_ok (moved_meaning z) m) (moved_scope z s) ≡ moved_scope z (set_heading name m s)
set_heading_moves z name m s = with_known_moves z name (Headed m) s

pub module_procedure_moves : (z : Exchange) {T : Type 0} (s : Scope T) (name : List ℕ) (t : Result TypeNo T)
    → module_procedure (moved_scope z s) name (map_ok (moved_type z) t) ≡ moved_scope z (module_procedure s name t)
module_procedure_moves z s name t = simp
    (set_heading_moves, heading_means_moves, procedure_meaning_moves, with_procedure_type_moves, length-map)

pub new_procedure_moves : (z : Exchange) {T : Type 0} (s : Scope T) (name : List ℕ) (number : ℕ) (t : Result TypeNo T)
    → new_procedure (moved_scope z s) name number (map_ok (moved_type z) t)
    ≡ moved_scope z (new_procedure s name number t)
new_procedure_moves z s name n t = simp (
  module_procedure_moves,
  set_heading_moves,
  heading_means_moves,
  nested_meaning_moves,
  cond_scope,
)

pub with_new_moves : (z : Exchange) {T : Type 0} (s : Scope T) (name : List ℕ) (number : ℕ) (made : Result Made T)
    → with_new (moved_scope z s) name number (map_ok (moved_made z) made) ≡ moved_state z (with_new s name number made)
with_new_moves z s name n made = simp (with_made_moves, new_procedure_moves, nothing_of_moves)

pub reported_of_other_moves : (z : Exchange) (g : Gathers) (types : Types) (at : Pos) (p : Procedure) (m : Made)
    → reported_of_other g (moved_types z types) at (moved_procedure z p) (moved_made z m)
    ≡ reported_of_other g types at p m
reported_of_other_moves z g types at p m =
    simp (
      agree_moves z (signature_of (Some m)) (signature_of (made_at types p.heading)),
      signature_of_moves z (Some m),
      signature_of_moves,
      made_at_moves,
    )

pub with_awaited_moves : (z : Exchange) (g : Gathers) (s : Scope g.Reported) (h : Heading) (p : Procedure)
    (made : Result Made g.Reported)
    → with_awaited g (moved_scope z s) h (moved_procedure z p) (map_ok (moved_made z) made)
    ≡ moved_state z (with_awaited g s h p made)
with_awaited_moves z g s h p made = simp (
  set_heading_moves z h.name.name (Ok (meaning.Procedure p)) s,
  reported_of_other_moves,
  then_map,
)

pub nothing_made_moves : (z : Exchange) {T : Type 0} (m : Result Made T)
    → nothing_made (map_ok (moved_made z) m) ≡ nothing_made m
nothing_made_moves z m = simp (then_map)

pub headed_as_moves : (z : Exchange) (g : Gathers) (s : Scope g.Reported) (h : Heading) (number : ℕ)
    (made : Result Made g.Reported) (p : Standing)
    → headed_as g (moved_scope z s) h number (map_ok (moved_made z) made) (moved_standing z p)
    ≡ moved_state z (headed_as g s h number made p)
headed_as_moves z g s h n made Free = with_new_moves z s h.name.name n made
headed_as_moves z g s h n made (Awaited p) = with_awaited_moves z g s h p made
headed_as_moves z g s h n made Taken = simp (nothing_made_moves)

pub with_heading_moves : (z : Exchange) (g : Gathers) (s : Scope g.Reported) (number : ℕ) (h : Heading)
    → with_heading g (moved_scope z s) number h ≡ moved_state z (with_heading g s number h)
with_heading_moves z g s n h = simp (headed_as_moves, heading_of_moves, name_standing_moves, find_name_moves)
