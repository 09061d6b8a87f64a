-- Types in order name types that are there.
use Rattle.std.proofs.Common.{◌≡◌, ℕ, zero, suc, ◌==◌, Bool, true, false, cond, List, [], ◌∷◌, ◌++◌, length, Option, Some, None, refl, sym, ap, subst, ◌∙◌}
use Rattle.std.specs.Prelude.{slice_get, ◌&&◌}
use Rattle.std.specs.List.{AllByRecursion}
use Rattle.typed_tree.specs.declared.types.Home.TheVariants.{Module}
use Rattle.typed_tree.specs.declared.types.TypeNo.{TypeNo}
use Rattle.typed_tree.specs.declared.shape.Made.{Made}
use Rattle.typed_tree.specs.declared.known_types.Types.{Types}
use Rattle.typed_tree.specs.Known.{made_at, in_list}
use Rattle.law_modules.specs.There.{named_by, is_type, are_types, name_types, others_name_types, are_whole}
use Rattle.law_well_formed.specs.Ordered.{is_known, AreKnown, AreOrderedFrom, OthersOrdered, AreOrdered}
use Rattle.law_well_formed.proofs.Trees.{at, itself, append_more, Placed, is_among}
use Rattle.law_well_formed.proofs.Shaped.{all_weaker, others_named, all_known, named_known}

both_true : (a b : Bool) → a ≡ true → b ≡ true → (a && b) ≡ true
both_true true b h k = k
both_true false b h k = absurd cc

pub types_known : (types : Types) (ts : List TypeNo) → AreKnown types ts → are_types types ts ≡ true
types_known types [] h = refl
types_known types (t ∷ ts) h = both_true (is_type types t) (are_types types ts) h.0 (types_known types ts h.1)

each_names : (types : Types) (ms : List Made) → AllByRecursion (λ m. AreKnown types (named_by m.shape)) ms
    → name_types types ms ≡ true
each_names types [] h = refl
each_names types (m ∷ ms) h = both_true (are_types types (named_by m.shape)) (name_types types ms)
    (types_known types (named_by m.shape) h.0) (each_names types ms h.1)

others_each : (types : Types) (es : List (ℕ × List Made))
    → AllByRecursion (λ e. AllByRecursion (λ m. AreKnown types (named_by m.shape)) e.1) es
    → others_name_types types es ≡ true
others_each types [] h = refl
others_each types (e ∷ es) h = both_true (name_types types e.1) (others_name_types types es) (each_names types e.1 h.0)
    (others_each types es h.1)

each_place : {X : Type 0} (P : X → Type 0) (xs : List X) → ((n : ℕ) (x : X) → slice_get xs n ≡ Some x → P x)
    → AllByRecursion P xs
each_place P [] k = tt
each_place P (x ∷ xs) k = (k 0 x refl, each_place P xs (λ n y e. k (suc n) y e))

module _ (types : Types) (o : AreOrdered types) where
  abbrev NamesKnown : Made → Type 0
  NamesKnown m = AreKnown types (named_by m.shape)

  own_names : AllByRecursion NamesKnown types.own
  own_names =
      each_place NamesKnown types.own
      (λ n m g. named_known types o (record { home = Module types.home; number = n }) m
      (ap (λ (b : Bool). cond b (slice_get types.own n) (in_list n (at types.home types.others)))
      (itself types.home) ∙ g))

  others_from : (before rest : List (ℕ × List Made)) → before ++ rest ≡ types.others → OthersOrdered before rest
      → AllByRecursion (λ e. AllByRecursion NamesKnown e.1) rest
  others_from before [] q h = tt
  others_from before (x ∷ rest) q h =
      let p : Placed types.others x.0 x.1 = record {
        before = before;
        rest = rest;
        is = sym q;
        free = h.0;
        ordered =
            h.1.0;
      } in (
        each_place NamesKnown x.1 (λ n m g. all_weaker (is_among types.others) (is_known types) (all_known types o)
            (named_by m.shape) (others_named types x.0 x.1 p n m g)),
        others_from (before ++ x ∷ []) rest (append_more before x rest ∙ q) h.1.1,
      )

  pub types_whole : are_whole types ≡ true
  types_whole = both_true (name_types types types.own) (others_name_types types types.others)
      (each_names types types.own own_names)
      (others_each types types.others (others_from [] types.others refl o.others))
