-- A program that lacks something.
use Rattle.std.proofs.Common.{◌≡◌, ℕ, zero, suc, ℤ, Bool, true, false, List, [], ◌∷◌, ◌-◌, map, length, nat_eq, Some, None, if◌then◌else◌, ◌++◌, refl, ap, ◌∙◌}
use Rattle.std.specs.Prelude.{unsigned_abs, slice_get, ◌&&◌}
use Rattle.typed_tree.specs.declared.computed.Argument.TheOpen as layer
use Rattle.typed_tree.specs.declared.computed.Place.{Place, out-Place}
use Rattle.typed_tree.specs.declared.computed.Root.{Root}
use Rattle.typed_tree.specs.declared.computed.Root.TheVariants as root
use Rattle.typed_tree.specs.declared.computed.TypedExpr.TheVariants as expr
use Rattle.typed_tree.specs.declared.meaning.Variable.{Variable}
use Rattle.typed_tree.specs.declared.statement.TypedStmt.{TypedStmt}
use Rattle.typed_tree.specs.declared.statement.TypedStmt.TheOpen as step
use Rattle.typed_tree.specs.declared.statement.TypedStmt.TheVariants as stmt
use Rattle.typed_tree.specs.declared.shape.Made.{Made}
use Rattle.typed_tree.specs.declared.types.TypeNo.{TypeNo}
use Rattle.typed_tree.specs.declared.known_types.Types.{Types}
use Rattle.typed_tree.specs.declared.typed_module.TypedModule.{TypedModule}
use Rattle.typed_tree.specs.Types.{char}
use Rattle.layout_storage.specs.Frames.{formals_of}
use Rattle.def_meaning.specs.Store.{Location}
use Rattle.def_meaning.specs.Answer.{State, Answer, Value, ◌▷◌, Ended}
use Rattle.def_meaning.specs.Outcome.{Outcome, Normal, sequence}
use Rattle.def_meaning.specs.Environment.{Modules, Environment, module_place}
use Rattle.def_meaning.specs.Expressions.{Asks, Gives, as_type, one_by_one}
use Rattle.def_meaning.specs.Runs.{storage, body_frame, first_state, body_environment}
use Rattle.def_meaning.specs.Statements.{Does, in_turn}
use Rattle.law_modules.specs.There.{named_by, is_type, are_types, name_types, others_name_types, are_whole}
use Rattle.law_nothing_missing.specs.Worlds.{World}
use Rattle.law_nothing_missing.specs.Expressions as strict
use Rattle.law_nothing_missing.specs.Expressions.{is_module, needs, lacks, if_provided, at_there, at_cell}
use Rattle.law_nothing_missing.specs.Statements as statements
use Rattle.law_nothing_missing.specs.Calls.{all_suit, calling, runs_with}
use Rattle.law_nothing_missing.specs.Runs.{first_world, has_types, all_have_types, then_body, bodies, strict_run}
use Rattle.law_nothing_missing.specs.Laws.{MissingLacks, UnknownLacks, NamedLacks, LocalLacks, FiveIsNone}
use Rattle.law_nothing_missing.proofs.Worlds.{none_some, some_same}
use Rattle.law_nothing_missing.proofs.Meant as meant
use Rattle.law_nothing_missing.proofs.Does as done

module _ (lacking : ℕ) (p : Modules) (ask : Asks) (world : World) (n : ℕ) (d : Place) (v : Variable)
    (is : d.root ≡ root.Global v) (missing : is_module p v.home ≡ false) (a : Environment) (st : State) where
  -- the variable is not there
  locate_lacks : strict.locate lacking p ask world d a st ≡ lacks lacking st
  locate_lacks =
      ap (λ (f : Gives Location). f a st) (meant.place_means lacking p ask world d (out-Place d) refl)
      ∙ ap (λ (r : Root). needs lacking (strict.root_layer lacking p ask world r a)
      (λ l st. at_there lacking p ask world l st ▷ λ l st. one_by_one
      (map (meant.component_value lacking p ask world) d.components) l a st) st) is
      ∙ ap (λ (b : Bool). needs lacking (if b then Some (module_place p v.home ∷ v.number ∷ []) else None)
      (λ l st. at_there lacking p ask world l st ▷ λ l st. one_by_one
      (map (meant.component_value lacking p ask world) d.components) l a st) st) missing

  value_lacks : strict.value lacking p ask world (expr.Load char d) a st ≡ lacks lacking st
  value_lacks =
      ap (λ (f : Gives ℤ). f a st) (meant.expr_means lacking p ask world (expr.Load char d) (layer.Load char d)
      (expr.outs-Load char d))
      ∙ ap (λ (x : Answer Location). ((x ▷ (at_cell lacking p ask world)) ▷ λ l st. Value (st.store l) st)) locate_lacks

  put_lacks : (function : Bool) → statements.does lacking p ask world n function (stmt.Put (expr.Load char d)) a st
      ≡ Ended lacking st.out
  put_lacks function =
      ap (λ (f : Does). f a st) (done.step_means lacking p ask world n function (stmt.Put (expr.Load char d))
      (step.Put (expr.Load char d)) (stmt.outs-Put (expr.Load char d)))
      ∙ ap (λ (x : Answer ℤ). (x ▷ λ v st. as_type a.types char v st ▷ λ v st. Value Normal
      (record st { out = st.out ++ unsigned_abs v ∷ [] }))) value_lacks

pub missing_lacks : MissingLacks
unfolding strict_run
missing_lacks m d v body is missing lacking pages n =
    let p : Modules = m ∷ [] in
    let w : World = first_world p in
    let ask : Asks = calling lacking p n n w in
    let left : ℕ = storage p pages - body_frame in
    let a : Environment = body_environment p 0 m left in
    let st : State = first_state p in
    either (all_have_types p) (bodies lacking p n left 0 p) st
    (ap (λ (ss : List TypedStmt). then_body lacking (in_turn (map (statements.does lacking p ask w n false) ss) a st)
    (bodies lacking p n left 1 [])) body
    ∙ ap (λ (o : Outcome). then_body lacking (sequence o (in_turn [] a)) (bodies lacking p n left 1 []))
    (put_lacks lacking p ask w n d v is missing a st false))
  where
    either : (b : Bool) (go : State → Outcome) (st : State) → go st ≡ Ended lacking st.out
        → if_provided lacking b go st ≡ Ended lacking st.out
    either true go st e = e
    either false go st e = refl

-- ---- types that are not there

second_false : (a b : Bool) → b ≡ false → (a && b) ≡ false
second_false true b h = h
second_false false b h = refl

first_false : (a b : Bool) → a ≡ false → (a && b) ≡ false
first_false true b h = cc h
first_false false b h = refl

one_unknown : (types : Types) (ts : List TypeNo) (i : ℕ) (t : TypeNo) → slice_get ts i ≡ Some t
    → is_type types t ≡ false → are_types types ts ≡ false
one_unknown types [] i t e h = absurd (none_some t e)
one_unknown types (u ∷ ts) zero t e h = first_false (is_type types u) (are_types types ts)
    (ap (is_type types) (some_same u t e) ∙ h)
one_unknown types (u ∷ ts) (suc i) t e h =
    second_false (is_type types u) (are_types types ts) (one_unknown types ts i t e h)

run_lacks : (m : TypedModule) (lacking pages n : ℕ) → has_types m ≡ false
    → strict_run lacking (m ∷ []) pages n ≡ Ended lacking []
unfolding strict_run
run_lacks m lacking pages n h =
    let p : Modules = m ∷ [] in
    ap (λ (b : Bool). if_provided lacking b (bodies lacking p n (storage p pages - body_frame) 0 p) (first_state p))
    (first_false (has_types m) true h)

pub unknown_lacks : UnknownLacks
unknown_lacks m i t e h lacking pages n =
    run_lacks m lacking pages n (second_false (are_whole m.types) (are_types m.types m.variables)
    (one_unknown m.types m.variables i t e h))

pub named_lacks : NamedLacks
named_lacks m x more e h lacking pages n =
    let others : Bool = others_name_types m.types m.types.others in
    run_lacks m lacking pages n
    (first_false (are_whole m.types) (are_types m.types m.variables)
    (first_false (name_types m.types m.types.own) others
    (ap (λ (ms : List Made). name_types m.types ms) e
    ∙ first_false (are_types m.types (named_by x.shape)) (name_types m.types more) h)))

pub local_lacks : LocalLacks
unfolding calling
local_lacks p c i t e h lacking n d world vs next left st =
    let suits : Bool = nat_eq next (length world) && all_suit c.types world (formals_of c.types c.routine.heading) vs in
    ap (λ (b : Bool). if_provided lacking b (runs_with lacking p n (calling lacking p n d) world c vs next left) st)
    (second_false suits (are_types c.types c.routine.variables) (one_unknown c.types c.routine.variables i t e h))

pub five_is_none : FiveIsNone
five_is_none types = refl
