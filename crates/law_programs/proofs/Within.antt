-- A scope within a WITH: the fields of its record stand for themselves.
use Rattle.std.proofs.Common.{◌≡◌, ℕ, zero, suc, Bool, List, [], ◌∷◌, ◌++◌, length, map, Option, Some, None, Result, refl, sym, ap, subst, ◌∙◌, arith}
use Rattle.std.specs.Prelude.{slice_get}
use Rattle.std.specs.Option.{option_map}
use Rattle.std.proofs.lemmas.List.{length-append}
use Rattle.typed_tree.specs.declared.known_types.Types.{Types}
use Rattle.typed_tree.specs.declared.meaning.Meaning.{Meaning}
use Rattle.typed_tree.specs.declared.meaning.Meaning.TheVariants as meaning
use Rattle.typed_tree.specs.declared.meaning.OpenedField.{OpenedField}
use Rattle.typed_tree.specs.declared.types.TypeNo.{TypeNo}
use Rattle.typed_tree.specs.Names.{place_of}
use Rattle.check_scope.specs.Elaborated.{Gathers}
use Rattle.check_scope.specs.Scopes.{or_outside, fields_at, field_among, field_numbered, field_in, open_field as opened_fields, means_or, means_as, sight_of}
use Rattle.check_scope.specs.declared.scope.OpenedRecord.{OpenedRecord}
use Rattle.check_scope.specs.declared.scope.Scope.{Scope}
use Rattle.layout_storage.specs.Types.{Ty, row, component}
use Rattle.layout_storage.specs.Shapes.{tree}
use Rattle.law_simulation.specs.TreesTyped.{Context}
use Rattle.law_well_formed.specs.Formed.{Holds, fine}
use Rattle.law_well_formed.proofs.Basics.{holds_weaker}
use Rattle.law_well_formed.specs.FormedRanges.{ScopeRanged}
use Rattle.law_programs.specs.Typing.{MeaningTyped, IsTyped}
use Rattle.law_programs.proofs.Known.{fields_known, record_is}
use Rattle.check_stmt_parts.specs.Simple.{into_record}

-- ---- lists

or_twice : {A : Type 0} (a b c : Option A) → or_outside (or_outside a b) c ≡ or_outside a (or_outside b c)
or_twice None b c = refl
or_twice (Some x) b c = refl

or_none : {A : Type 0} (a : Option A) → or_outside None a ≡ or_outside a None
or_none None = refl
or_none (Some x) = refl

at_front : (ws : List Ty) (t : Ty) (j : ℕ) (u : Ty) → slice_get ws j ≡ Some u → slice_get (ws ++ t ∷ []) j ≡ Some u
at_front [] t j u e = absurd cc
at_front (w ∷ ws) t zero u e = e
at_front (w ∷ ws) t (suc j) u e = at_front ws t j u e

at_end : (ws : List Ty) (t : Ty) → slice_get (ws ++ t ∷ []) (length ws) ≡ Some t
at_end [] t = refl
at_end (w ∷ ws) t = at_end ws t

opened_more : (types : Types) (name : List ℕ) (ws : List OpenedRecord) (r : OpenedRecord)
    → opened_fields types name (ws ++ r ∷ []) ≡ or_outside (field_in types name r) (opened_fields types name ws)
opened_more types name [] r = or_none (field_in types name r)
opened_more types name (x ∷ ws) r =
    subst (λ (o : Option OpenedField). or_outside o (field_in types name x)
    ≡ or_outside (field_in types name r) (or_outside (opened_fields types name ws) (field_in types name x)))
    (sym (opened_more types name ws r))
    (or_twice (field_in types name r) (opened_fields types name ws) (field_in types name x))

-- the component of a record is its field
field_component : (types : Types) (fs : List (List ℕ × TypeNo)) (n : ℕ) (f : List ℕ × TypeNo) → slice_get fs n ≡ Some f
    → component (row (map (λ (f : List ℕ × TypeNo). tree types f.1) fs)) (n ∷ []) ≡ Some (tree types f.1)
unfolding component
field_component types [] n f e = absurd cc
field_component types (x ∷ fs) zero f e = let same : x ≡ f = cc in
    ap (λ (y : List ℕ × TypeNo). Some (tree types y.1)) same
field_component types (x ∷ fs) (suc n) f e = field_component types fs n f e

-- ---- meanings

module _ (x : Context) (ws : List Ty) (opens : ℕ → Bool) (level : ℕ) where
  meaning_within : (t : Ty) (y : Meaning) → MeaningTyped x ws opens level y
      → MeaningTyped x (ws ++ t ∷ []) opens level y
  meaning_within t (meaning.Constant v) p = p
  meaning_within t (meaning.Type u n) p = p
  meaning_within t (meaning.Variable v) p = p
  meaning_within t (meaning.Local v) p = p
  meaning_within t (meaning.Field f) p = (at_front ws t f.with _ p.0, p.1)
  meaning_within t (meaning.Procedure f) p = p
  meaning_within t (meaning.LocalProcedure f) p = p
  meaning_within t meaning.Ahead p = p
  meaning_within t (meaning.Standard f) p = p
  meaning_within t (meaning.Module k) p = p

-- ---- fields of the record

module _ (g : Gathers) (x : Context) (ws : List Ty) (opens : ℕ → Bool) (s : Scope g.Reported)
    (h : IsTyped g x ws opens s) (count : length ws ≡ length s.withs) (t : TypeNo) where
  abbrev r : OpenedRecord
  r = record { number = length s.withs; of = t }

  abbrev inner : List Ty
  inner = ws ++ tree x.home.types t ∷ []

  abbrev FieldTyped : OpenedField → Type 0
  FieldTyped f = (slice_get inner f.with ≡ Some (tree x.home.types f.whole))
      × (component (tree x.home.types f.whole) (f.number ∷ []) ≡ Some (tree x.home.types f.of))

  abbrev IfTyped : Option OpenedField → Type 0
  IfTyped None = Unit {0}
  IfTyped (Some f) = FieldTyped f

  there : slice_get inner (length s.withs) ≡ Some (tree x.home.types t)
  there = ap (λ (n : ℕ). slice_get inner n) (sym count) ∙ at_end ws (tree x.home.types t)

  field_by : (fs : List (List ℕ × TypeNo)) (n : ℕ) (o : Option (List ℕ × TypeNo)) → fields_at s.types t ≡ Some fs
      → slice_get fs n ≡ o → IfTyped (option_map (λ e. record { with = r.number; whole = r.of; number = n; of = e.1 })
      o)
  field_by fs n None e q = tt
  field_by fs n (Some f) e q = (
    there,
    ap (λ (u : Ty). component u (n ∷ []))
        (record_is x.home.types h.all t fs (fields_known s.types x.home.types h.types t fs e))
        ∙ field_component x.home.types fs n f q,
  )

  field_at : (fs : List (List ℕ × TypeNo)) (o : Option ℕ) → fields_at s.types t ≡ Some fs
      → IfTyped (field_numbered r fs o)
  field_at fs None e = tt
  field_at fs (Some n) e = field_by fs n (slice_get fs n) e refl

  fields_typed : (name : List ℕ) (o : Option (List (List ℕ × TypeNo))) → fields_at s.types t ≡ o
      → IfTyped (field_among r name o)
  fields_typed name None e = tt
  fields_typed name (Some fs) e = field_at fs (place_of name fs) e

  name_typed : {T : Type 0} (o far : Option OpenedField) (m : Result Meaning T) → IfTyped o
      → Holds (MeaningTyped x ws opens s.level) (means_or far m)
      → Holds (MeaningTyped x inner opens s.level) (means_or (or_outside o far) m)
  name_typed None far m p q = holds_weaker (meaning_within x ws opens s.level (tree x.home.types t)) q
  name_typed (Some f) far m p q = fine (meaning.Field f) p

  pub within_typed : IsTyped g x inner opens (into_record s t)
  within_typed = record {
    all = h.all;
    room = h.room;
    types = h.types;
    formals = h.formals;
    names = λ name.
        subst (λ (o : Option OpenedField). Holds (MeaningTyped x inner opens s.level)
        (means_or o (means_as g name.pos (sight_of name.name s)))) (sym (opened_more s.types name.name s.withs r))
        (name_typed (field_in s.types name.name r) (opened_fields s.types name.name s.withs)
        (means_as g name.pos (sight_of name.name s)) (fields_typed name.name (fields_at s.types t) refl)
        (h.names name));
    members = λ k name q. holds_weaker (meaning_within x ws opens s.level (tree x.home.types t)) (h.members k name q);
  }

  pub within_count : length inner ≡ length (into_record s t).withs
  within_count =
      let a = length-append ws (tree x.home.types t ∷ []) in
      let b = length-append s.withs (r ∷ []) in
      omega (arith, a, b, count)

pub within_ranged : {T : Type 0} (s : Scope T) (t : TypeNo) → ScopeRanged s → ScopeRanged (into_record s t)
within_ranged s t h = record {
  types = h.types;
  own = h.own;
  others = h.others;
  names = h.names;
  outer = h.outer;
  tables = h.tables;
}
