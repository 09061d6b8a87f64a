-- Declare of check_definition, with other numbers of modules.
use Rattle.check_definition.specs.Declare.{with_variable_type, procedure_meaning, with_procedure_type, begun_name, variable_meaning, finished_variable, nothing_reported, constant_meaning, with_constant, brings_with, type_meaning, with_type}
use Rattle.check_scope.specs.Elaborated.{Gathers, beside}
use Rattle.check_scope.specs.Scopes.{State, begin_name, finish_name}
use Rattle.check_scope.specs.declared.scope.Scope.{Scope}
use Rattle.def_exchange.specs.Moved.{moved_meaning, moved_type, Exchange, moved_value}
use Rattle.law_exchange_types.proofs.Basics.{then_map, map_then}
use Rattle.law_exchange_types.proofs.InScope.{begin_name_moves, finish_name_moves}
use Rattle.law_exchange_types.specs.Pieces.{map_ok}
use Rattle.law_exchange_types.specs.Scopes.{moved_scope, moved_state}
use Rattle.m2_tree.specs.declared.name.Ident.{Ident}
use Rattle.std.proofs.Common.{◌≡◌, refl, Err, Ok, Result, ℕ, ap, ap₂, ◌∙◌}
use Rattle.std.proofs.lemmas.List.{map-append, length-map}
use Rattle.typed_tree.specs.declared.types.TypeNo.{TypeNo}
use Rattle.m2_tree.specs.declared.decl.Constant.{Constant}
use Rattle.m2_tree.specs.declared.decl.TypeDecl.{TypeDecl}
use Rattle.typed_tree.specs.declared.meaning.Value.{Value}
use Rattle.typed_tree.specs.declared.meaning.Meaning.{Meaning}
use Rattle.check_const.specs.Parts.{constant}
use Rattle.check_expr.specs.Meanings.{part}
use Rattle.check_type_expr.specs.Made.{nothing_of, type_of}
use Rattle.law_exchange_types.proofs.Fixed.{constant_moves}
use Rattle.law_exchange_types.proofs.Exprs.{part_moves}
use Rattle.law_exchange_types.proofs.Types.{type_moves}
use Rattle.law_exchange_types.proofs.MadePieces.{nothing_of_moves}

pub begun_name_moves : (z : Exchange) (g : Gathers) (st : State (Unit {0}) g.Reported) (name : Ident)
    → begun_name g (moved_state z st) name ≡ moved_state z (begun_name g st name)
begun_name_moves z g st name = simp (begin_name_moves)

pub variable_meaning_moves : (z : Exchange) {T : Type 0} (home : ℕ) (n : ℕ) (t : Result TypeNo T)
    → variable_meaning (z.there home) n (map_ok (moved_type z) t) ≡ map_ok (moved_meaning z) (variable_meaning home n t)
variable_meaning_moves z home n t = simp (then_map, map_then)

pub with_variable_type_moves : (z : Exchange) {T : Type 0} (s : Scope T) (t : Result TypeNo T)
    → with_variable_type (moved_scope z s) (map_ok (moved_type z) t) ≡ moved_scope z (with_variable_type s t)
with_variable_type_moves z s (Ok t) = simp (map-append)
with_variable_type_moves z s (Err e) = refl

pub finished_variable_moves : (z : Exchange) {T : Type 0} (t : Result TypeNo T) (s : Scope T) (name : Ident)
    → finished_variable (map_ok (moved_type z) t) (moved_scope z s) name ≡ moved_scope z (finished_variable t s name)
finished_variable_moves z t s name = simp
    (finish_name_moves, with_variable_type_moves, variable_meaning_moves, length-map)

pub procedure_meaning_moves : (z : Exchange) {T : Type 0} (home : ℕ) (n : ℕ) (t : Result TypeNo T)
    → procedure_meaning (z.there home) n (map_ok (moved_type z) t)
    ≡ map_ok (moved_meaning z) (procedure_meaning home n t)
procedure_meaning_moves z home n t = simp (then_map, map_then)

pub with_procedure_type_moves : (z : Exchange) {T : Type 0} (s : Scope T) (t : Result TypeNo T)
    → with_procedure_type (moved_scope z s) (map_ok (moved_type z) t) ≡ moved_scope z (with_procedure_type s t)
with_procedure_type_moves z s (Ok t) = simp (map-append)
with_procedure_type_moves z s (Err e) = refl

-- ---- constants

pub constant_meaning_moves : (z : Exchange) {T : Type 0} (v : Result Value T)
    → constant_meaning (map_ok (moved_value z) v) ≡ map_ok (moved_meaning z) (constant_meaning v)
constant_meaning_moves z (Ok v) = refl
constant_meaning_moves z (Err e) = refl

pub nothing_reported_moves : (z : Exchange) {T : Type 0} (v : Result Value T)
    → nothing_reported (map_ok (moved_value z) v) ≡ nothing_reported v
nothing_reported_moves z (Ok v) = refl
nothing_reported_moves z (Err e) = refl

pub type_meaning_moves : (z : Exchange) {T : Type 0} (t : Result TypeNo T) (n : ℕ)
    → type_meaning (map_ok (moved_type z) t) n ≡ map_ok (moved_meaning z) (type_meaning t n)
type_meaning_moves z (Ok t) n = refl
type_meaning_moves z (Err e) n = refl

module _ (z : Exchange) (g : Gathers) where
  abbrev St : Type 0
  St = State (Unit {0}) g.Reported

  -- a name that has its meaning, and what is reported beside
  abbrev ended : Ident → St → Result (Unit {0}) g.Reported → Scope g.Reported → Result Meaning g.Reported
      → Result (Unit {0}) g.Reported → St
  ended name st begun s m r = (finish_name s name m, beside g st.1 (beside g begun r))

  ended_moves : (name : Ident) (st : St) (begun : Result (Unit {0}) g.Reported) (s : Scope g.Reported)
      (m : Result Meaning g.Reported) (r : Result (Unit {0}) g.Reported)
      → ended name (moved_state z st) begun (moved_scope z s) (map_ok (moved_meaning z) m) r
      ≡ moved_state z (ended name st begun s m r)
  ended_moves name st begun s m r =
      ap (λ (u : Scope g.Reported). (u, beside g st.1 (beside g begun r))) (finish_name_moves z s name m)

  pub with_constant_moves : (st : St) (c : Constant)
      → with_constant g (moved_state z st) c ≡ moved_state z (with_constant g st c)
  with_constant_moves st c =
      let b : St = begin_name g st.0 c.name in
      let v : Result Value g.Reported = constant g b.0 (part g c.value) in
      ap (λ (b : St). let v = constant g b.0 (part g c.value) in
      ended c.name (moved_state z st) b.1 b.0 (constant_meaning v) (nothing_reported v))
      (begin_name_moves z g st.0 c.name)
      ∙ (ap (λ (v : Result Value g.Reported).
      ended c.name (moved_state z st) b.1 (moved_scope z b.0) (constant_meaning v) (nothing_reported v))
      (constant_moves z g b.0 (part g c.value) (part_moves z g c.value))
      ∙ (ap₂ (ended c.name (moved_state z st) b.1 (moved_scope z b.0)) (constant_meaning_moves z v)
      (nothing_reported_moves z v)
      ∙ ended_moves c.name st b.1 b.0 (constant_meaning v) (nothing_reported v)))

  pub with_type_moves : (st : St) (d : TypeDecl)
      → with_type g (moved_state z st) d ≡ moved_state z (with_type g st d)
  with_type_moves st d =
      let b : St = begin_name g st.0 d.name in
      let t : State TypeNo g.Reported = type_of g d.of b.0 in
      ap (λ (b : St). let t = type_of g d.of b.0 in
      ended d.name (moved_state z st) b.1 t.0 (type_meaning t.1 (brings_with d.of)) (nothing_of t.1))
      (begin_name_moves z g st.0 d.name)
      ∙ (ap (λ (t : State TypeNo g.Reported).
      ended d.name (moved_state z st) b.1 t.0 (type_meaning t.1 (brings_with d.of)) (nothing_of t.1))
      (type_moves z g d.of b.0)
      ∙ (ap₂ (ended d.name (moved_state z st) b.1 (moved_scope z t.0)) (type_meaning_moves z t.1 (brings_with d.of))
      (nothing_of_moves z t.1)
      ∙ ended_moves d.name st b.1 t.0 (type_meaning t.1 (brings_with d.of)) (nothing_of t.1)))
