-- Arguments of calls, with other numbers of modules.
use Rattle.check_const.specs.Denote.{constant_by}
use Rattle.check_const.specs.Parts.{Part, constant}
use Rattle.check_expr.specs.Meanings.{with_look, breaches_in_all, formals_of, actuals, with_actual, wrong_count, value_standing, Meant, value_of, argument_by}
use Rattle.check_scope.specs.Elaborated.{Gathers, reported_beside, beside, of_sort, of_heading, ◌▷◌}
use Rattle.check_scope.specs.declared.meaningless.Meaningless.{Meaningless}
use Rattle.check_scope.specs.declared.scope.Scope.{Scope}
use Rattle.check_value.specs.Actuals.{next_formal, with_argument}
use Rattle.check_value.specs.declared.computed.Computed.{Computed}
use Rattle.check_value.specs.declared.computed.Designated.{Designated}
use Rattle.def_exchange.specs.Moved.{moved_formal, moved_signature, moved_types, moved_value, Exchange}
use Rattle.law_exchange_exprs.specs.Moving.{MeantMoves, MeantsMove, PartMoves}
use Rattle.law_exchange_types.proofs.Actuals.{with_argument_moves}
use Rattle.law_exchange_types.proofs.Basics.{heading_moves, refusal_moves, sort_moves, then_moves}
use Rattle.law_exchange_types.proofs.Denote.{constant_by_moves}
use Rattle.law_exchange_types.proofs.MeaningPieces.{value_standing_moves, argument_by_moves}
use Rattle.law_exchange_types.specs.Pieces.{map_ok}
use Rattle.law_exchange_types.specs.Scopes.{moved_scope}
use Rattle.law_exchange_types.specs.Trees.{moved_argument}
use Rattle.law_exchange_types.specs.Values.{moved_computed, moved_designated}
use Rattle.m2_rule.specs.Breaches.{breach}
use Rattle.m2_rule.specs.declared.rule.Rule.{Rule}
use Rattle.m2_tree.specs.declared.pos.Pos.{Pos}
use Rattle.std.proofs.Common.{◌≡◌, Err, List, None, Ok, Option, Result, Some, ap, fold, map, option_map, refl, sym, ◌∷◌, ◌∙◌, []}
use Rattle.typed_tree.specs.declared.computed.Argument.{Argument}
use Rattle.typed_tree.specs.declared.shape.Formal.{Formal}
use Rattle.typed_tree.specs.declared.shape.Signature.{Signature}
use Rattle.m2_rule.specs.declared.rule.Rule.TheVariants as rule

module _ (z : Exchange) (g : Gathers) where
  -- ---- a part taken as a constant, or as a value

  pub constant_of_moves : (s : Scope g.Reported) (p : Part g.Reported) → PartMoves z p
      → constant g (moved_scope z s) p ≡ map_ok (moved_value z) (constant g s p)
  constant_of_moves s p h = ap (constant_by g p.at) (h.denotes s) ∙ constant_by_moves z g p.at (p.denotes s)

  pub value_of_moves : (s : Scope g.Reported) (m : Meant g.Reported) → MeantMoves z m
      → value_of g (moved_scope z s) m ≡ map_ok (moved_computed z) (value_of g s m)
  value_of_moves s m h =
      ap (value_standing g (moved_types z s.types) m.fixed.at) (h.means s)
      ∙ value_standing_moves z g s.types m.fixed.at (m.means s)

  pub valued_moves : {A B : Type 0} (f : A → B) (s : Scope g.Reported) (m : Meant g.Reported)
      (k : Computed → Result A g.Reported) (l : Computed → Result B g.Reported) → MeantMoves z m
      → ((v : Computed) → l (moved_computed z v) ≡ map_ok f (k v))
      → (value_of g (moved_scope z s) m ▷ l) ≡ map_ok f (value_of g s m ▷ k)
  valued_moves f s m k l h e =
      ap (λ (v : Result Computed g.Reported). v ▷ l) (value_of_moves s m h)
      ∙ then_moves (moved_computed z) f (value_of g s m) k l e

  pub sorted_moves : {A B : Type 0} (f : A → B) (broken : Rule) (s : Scope g.Reported) (m : Meant g.Reported)
      (k : Designated → Result A g.Reported) (l : Designated → Result B g.Reported) → MeantMoves z m
      → ((d : Designated) → l (moved_designated z d) ≡ map_ok f (k d))
      → (of_sort g m.fixed.at broken (m.means (moved_scope z s)) ▷ l)
      ≡ map_ok f (of_sort g m.fixed.at broken (m.means s) ▷ k)
  sorted_moves f broken s m k l h e =
      ap (λ (d : Result Designated (Meaningless g.Reported)). of_sort g m.fixed.at broken d ▷ l) (h.means s)
      ∙ (ap (λ (d : Result Designated g.Reported). d ▷ l)
      (sort_moves g (moved_designated z) m.fixed.at broken (m.means s))
      ∙ then_moves (moved_designated z) f (of_sort g m.fixed.at broken (m.means s)) k l e)

  -- ---- what is broken in arguments

  abbrev looked : {A : Type 0} → Result A g.Reported → Result (Unit {0}) g.Reported
  looked r = r ▷ λ d. Ok tt

  seen_moves : {A B : Type 0} (f : A → B) (r : Result A g.Reported) → looked (map_ok f r) ≡ looked r
  seen_moves f (Ok a) = refl
  seen_moves f (Err e) = refl

  pub look_moves : (s : Scope g.Reported) (m : Meant g.Reported) (so : Result (Unit {0}) g.Reported) → MeantMoves z m
      → with_look g (moved_scope z s) so m ≡ with_look g s so m
  look_moves s m so h =
      ap (beside g so) (ap (λ (u : Result Designated (Meaningless g.Reported)). of_heading u ▷ λ d. Ok tt) (h.means s)
      ∙ (ap (λ (u : Result Designated g.Reported). u ▷ λ d. Ok tt) (heading_moves (moved_designated z) (m.means s))
      ∙ seen_moves (moved_designated z) (of_heading (m.means s))))

  looks_move : (s : Scope g.Reported) (ms : List (Meant g.Reported)) (so : Result (Unit {0}) g.Reported)
      → MeantsMove z ms → fold (with_look g (moved_scope z s)) so ms ≡ fold (with_look g s) so ms
  looks_move s [] so h = refl
  looks_move s (m ∷ ms) so h =
      ap (λ (u : Result (Unit {0}) g.Reported). fold (with_look g (moved_scope z s)) u ms) (look_moves s m so h.0)
      ∙ looks_move s ms (with_look g s so m) h.1

  pub breaches_move : (s : Scope g.Reported) (ms : List (Meant g.Reported)) → MeantsMove z ms
      → breaches_in_all g (moved_scope z s) ms ≡ breaches_in_all g s ms
  breaches_move s ms h = looks_move s ms (Ok tt) h

  pub reported_moves : {A B : Type 0} (f : A → B) (broken : Rule) (s : Scope g.Reported) (at : Pos)
      (ms : List (Meant g.Reported)) → MeantsMove z ms
      → reported_beside g {A = B} at broken (breaches_in_all g (moved_scope z s) ms)
      ≡ map_ok f (reported_beside g {A = A} at broken (breaches_in_all g s ms))
  reported_moves {A} {B} f broken s at ms h =
      ap (reported_beside g {A = B} at broken) (breaches_move s ms h)
      ∙ sym (refusal_moves g f (g.one (breach at broken)) (breaches_in_all g s ms))

  pub count_moves : {A B : Type 0} (f : A → B) (s : Scope g.Reported) (at : Pos) (ms : List (Meant g.Reported))
      → MeantsMove z ms
      → wrong_count g {A = B} (moved_scope z s) at ms ≡ map_ok f (wrong_count g {A = A} s at ms)
  count_moves f s at ms h = reported_moves f rule.ArgumentCount s at ms h

  -- ---- the arguments, one after the other

  argument_moves : (s : Scope g.Reported) (f : Option Formal) (m : Meant g.Reported) → MeantMoves z m
      → argument_by g (moved_types z s.types) (option_map (moved_formal z) f) m.fixed.at (m.means (moved_scope z s))
      ≡ map_ok (moved_argument z) (argument_by g s.types f m.fixed.at (m.means s))
  argument_moves s f m h =
      ap (argument_by g (moved_types z s.types) (option_map (moved_formal z) f) m.fixed.at) (h.means s)
      ∙ argument_by_moves z g s.types f m.fixed.at (m.means s)

  abbrev moved_actuals : List Formal × Result (List Argument) g.Reported
      → List Formal × Result (List Argument) g.Reported
  moved_actuals st = (map (moved_formal z) st.0, map_ok (map (moved_argument z)) st.1)

  next_moves : (fs : List Formal)
      → next_formal (map (moved_formal z) fs)
      ≡ (option_map (moved_formal z) (next_formal fs).0, map (moved_formal z) (next_formal fs).1)
  next_moves [] = refl
  next_moves (f ∷ fs) = refl

  pub actual_moves : (s : Scope g.Reported) (st : List Formal × Result (List Argument) g.Reported)
      (m : Meant g.Reported)
      → MeantMoves z m → with_actual g (moved_scope z s) (moved_actuals st) m ≡ moved_actuals (with_actual g s st m)
  actual_moves s st m h =
      ap (λ (n : Option Formal × List Formal). (
        n.1,
        with_argument g (map_ok (map (moved_argument z)) st.1)
            (argument_by g (moved_types z s.types) n.0 m.fixed.at (m.means (moved_scope z s))),
      )) (next_moves st.0)
      ∙ ap (λ (u : Result (List Argument) g.Reported). (map (moved_formal z) (next_formal st.0).1, u))
      (ap (with_argument g (map_ok (map (moved_argument z)) st.1)) (argument_moves s (next_formal st.0).0 m h)
      ∙ with_argument_moves z g st.1 (argument_by g s.types (next_formal st.0).0 m.fixed.at (m.means s)))

  actuals_move : (s : Scope g.Reported) (ms : List (Meant g.Reported))
      (st : List Formal × Result (List Argument) g.Reported) → MeantsMove z ms
      → fold (with_actual g (moved_scope z s)) (moved_actuals st) ms ≡ moved_actuals (fold (with_actual g s) st ms)
  actuals_move s [] st h = refl
  actuals_move s (m ∷ ms) st h =
      ap (λ (u : List Formal × Result (List Argument) g.Reported). fold (with_actual g (moved_scope z s)) u ms)
      (actual_moves s st m h.0) ∙ actuals_move s ms (with_actual g s st m) h.1

  pub actuals_of_moves : (s : Scope g.Reported) (fs : List Formal) (ms : List (Meant g.Reported)) → MeantsMove z ms
      → actuals g (moved_scope z s) (map (moved_formal z) fs) ms
      ≡ map_ok (map (moved_argument z)) (actuals g s fs ms)
  actuals_of_moves s fs ms h =
      ap (λ (u : List Formal × Result (List Argument) g.Reported). u.1) (actuals_move s ms (fs, Ok []) h)

  pub given_moves : (s : Scope g.Reported) (h : Option Signature) (ms : List (Meant g.Reported)) → MeantsMove z ms
      → actuals g (moved_scope z s) (formals_of (option_map (moved_signature z) h)) ms
      ≡ map_ok (map (moved_argument z)) (actuals g s (formals_of h) ms)
  given_moves s None ms h = actuals_of_moves s [] ms h
  given_moves s (Some f) ms h = actuals_of_moves s f.formals ms h
