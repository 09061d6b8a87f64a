-- Branches, returns and ends.
use Rattle.std.proofs.Common.{◌≡◌, ℕ, ◌+◌, ◌-◌, ◌<◌, ◌≤◌, ◌⊎◌, inl, inr, List, [], ◌++◌, length, take, map, Option, Some, None, refl, sym, ap, subst, ◌∙◌, append_assoc, arith}
use Rattle.std.specs.Prelude.{slice_get, nat_le}
use Rattle.std.proofs.lemmas.Bool.{cases_lt}
use Rattle.std.proofs.lemmas.List.{append-nil, map-append, length-append, length-map, take_at}
use Rattle.std.proofs.lemmas.Option.{slice_get_within}
use Rattle.wasm_tree.specs.declared.kinds.ValueType.{ValueType}
use Rattle.wasm_tree.specs.declared.module.WModule.{WModule}
use Rattle.wasm_tree.specs.declared.store.Value.{Value}
use Rattle.wasm_tree.specs.declared.store.Store.{Store}
use Rattle.wasm_tree.specs.Validity.{Context, Leads}
use Rattle.wasm_tree.specs.Machine.{Label, Activation, Going, Over, Progress, split_last, split_end, keep_operands, branch_to, branch_by, return_to}
use Rattle.wasm_tree.specs.Linking.{type_of}
use Rattle.wasm_sound.specs.Sound.{Through, Level, Opens, outermost, IsFrame, IsActivation, IsGoing, IsSound}
use Rattle.wasm_sound.specs.Ready.{AreKept, CanBranch}
use Rattle.wasm_sound.proofs.Lists.{push_from_last, through_pop, parts, split_end_at, same_at}
use Rattle.wasm_sound.proofs.Levels.{Target, target, past_labels, labels_long}
use Rattle.wasm_sound.proofs.Scenes.{Outside, going, or_trap_at, if_sound}

pub length_typed : (vs : List Value) (ts : List ValueType) → map type_of vs ≡ ts → length vs ≡ length ts
length_typed vs ts e = sym (length-map vs type_of) ∙ ap length e

-- operands in three parts
cut_three : (us : List Value) (x y z : List ValueType) → map type_of us ≡ x ++ (y ++ z) → (base extra args : List Value)
    × (us ≡ base ++ extra ++ args) × (map type_of base ≡ x) × (map type_of args ≡ z)
cut_three us x y z e =
    let base = parts type_of us x (y ++ z) e in
    let rest = parts type_of base.1 y z base.4 in (
      base.0,
      rest.0,
      rest.1,
      base.2 ∙ ap (λ (v : List Value). base.0 ++ v) rest.2
          ∙ sym (append_assoc base.0 rest.0 rest.1),
      base.3,
      rest.4,
    )

regrouped : (below inside more lower taken whole : List ValueType) → below ≡ inside ++ more
    → whole ≡ below ++ (lower ++ taken) → whole ≡ inside ++ (more ++ lower ++ taken)
regrouped below inside more lower taken whole b e =
    e ∙ (ap (λ (x : List ValueType). x ++ (lower ++ taken)) b
    ∙ (append_assoc inside more (lower ++ taken)
    ∙ ap (λ (x : List ValueType). inside ++ x) (sym (append_assoc more lower taken))))

module _ (modules : List WModule) (st : Store) (callers : List Activation) (returns : List ValueType)
    (o : Outside modules st callers returns) where
  -- back to the last caller, which has waited for results of these types
  pub returned_sound : (vs : List Value) → map type_of vs ≡ returns → IsSound modules (return_to st callers vs).0
  returned_sound vs e = go (split_last callers) refl
    where
      resumed : (caller : Activation) (g : List ValueType) → IsActivation modules g caller returns
          → IsActivation modules g (record caller { stack = caller.stack ++ vs }) []
      resumed caller g h = record {
        context = h.context;
        inner = h.inner;
        above = h.above;
        frame = h.frame;
        labels = h.labels;
        stack = append-nil (map type_of (caller.stack ++ vs))
            ∙ (map-append type_of caller.stack vs
            ∙ (ap (λ (l : List ValueType). map type_of caller.stack ++ l) e ∙ h.stack));
        leads = h.leads;
      }

      go : (p : Option (List Activation × Activation)) → split_last callers ≡ p
          → IsSound modules (elim p as (λ _. Progress)
          [ None ↦ (Over 0, []) | Some p ↦ (Going st (record p.1 { stack = p.1.stack ++ vs }) p.0, []) ]).0
      go None f = tt
      go (Some p) f =
          let popped = through_pop (IsActivation modules) p.0 p.1 o.first returns
          (subst (λ (l : List Activation). Through (IsActivation modules) o.first l returns)
          (push_from_last callers p f) o.waiting) in
          record {
            store = o.store;
            first = o.first;
            returns = popped.0;
            waiting = popped.1;
            running =
                resumed p.1 popped.0 popped.2;
          }

  -- the function is left, with its results on top
  pub left : (a : Activation) (us : List Value) (below : List ValueType) → map type_of us ≡ below ++ returns
      → a.arity ≡ length returns → (a.arity ≤ length us)
      × IsSound modules (branch_to st (record a { stack = us }) callers None).0
  left a us below e n =
      let cut = parts type_of us below returns e in
      let size : a.arity ≡ length cut.1 = n ∙ sym (length_typed cut.1 returns cut.4) in
      let long : length us ≡ length cut.0 + length cut.1 = ap length cut.2 ∙ length-append cut.0 cut.1 in (
        omega (arith, size, long),
        or_trap_at modules (split_end a.arity us) (cut.0, cut.1) (λ p. return_to st callers p.1)
            (ap (split_end a.arity) cut.2 ∙ split_end_at cut.0 cut.1 a.arity size) (returned_sound cut.1 cut.4),
      )

  module _ (a : Activation) (inner : Level) (c : Context) (f : IsFrame modules a.instance a.arity a.locals returns c)
      (h : Through Opens (outermost c) a.labels inner) where
    returns_long : a.arity ≡ length returns
    returns_long = f.arity_is ∙ ap length (sym f.returns_is)

    -- to a label of a block: what stood below it stays, and what is kept is put on that
    at_label : (l : ℕ) (taken : List ValueType) (t : Target (outermost c) a.labels inner l taken)
        (base args : List Value) → map type_of base ≡ t.inside.below → map type_of args ≡ taken
        → IsActivation modules returns (record a { labels = t.before; rest = t.label.again; stack = base ++ args }) []
    at_label l taken t base args e g = record {
      context = c;
      inner = t.at;
      above = t.opens.between ++ taken;
      frame = f;
      labels = t.reached;
      stack =
          append-nil (map type_of (base ++ args))
          ∙ (map-append type_of base args
          ∙ (ap (λ (x : List ValueType). x ++ map type_of args) (e ∙ t.opens.below)
          ∙ (ap (λ (x : List ValueType). t.at.below ++ t.opens.between ++ x) g
          ∙ append_assoc t.at.below t.opens.between taken)));
      leads = subst (λ (x : List ValueType). Leads t.at.context t.label.again (t.opens.between ++ x) t.at.gives)
          t.taken_is t.opens.again;
    }

    cut_label : (us : List Value) (l : ℕ) (taken : List ValueType) (t : Target (outermost c) a.labels inner l taken)
        (base extra args : List Value) → us ≡ base ++ extra ++ args → map type_of base ≡ t.inside.below
        → map type_of args ≡ taken
        → AreKept a.arity us (Some (t.before, t.label))
        × IsSound modules (branch_to st (record a { stack = us }) callers (Some (t.before, t.label))).0
    cut_label us l taken t base extra args whole e g =
        let size : t.label.arity ≡ length args = t.opens.arity ∙ ap length t.taken_is
        ∙ sym (length_typed args taken g) in
        let height : length base ≡ t.label.height = length_typed base t.inside.below e ∙ sym t.opens.height in
        let long : length us ≡ length base + length extra + length args = ap length whole
        ∙ length-append (base ++ extra) args ∙ ap (λ (n : ℕ). n + length args) (length-append base extra) in (
          omega (arith, size, height, long),
          or_trap_at modules (split_end t.label.arity us) (base ++ extra, args)
              (λ p. (
                Going st (record a {
                  labels = t.before;
                  rest = t.label.again;
                  stack =
                      keep_operands t.label.height p;
                }) callers,
                [],
              ))
              (ap (split_end t.label.arity) whole ∙ split_end_at (base ++ extra) args t.label.arity size)
              (subst (λ (v : List Value). IsGoing modules st
              (record a { labels = t.before; rest = t.label.again; stack = v ++ args }) callers)
              (sym (take_at base extra t.label.height height))
              (going modules st callers returns (record a
              { labels = t.before; rest = t.label.again; stack = base ++ args }) o
              (at_label l taken t base args e g))),
        )

    to_label : (us : List Value) (lower taken : List ValueType) (l : ℕ)
        → map type_of us ≡ inner.below ++ (lower ++ taken) → (t : Target (outermost c) a.labels inner l taken)
        → AreKept a.arity us (Some (t.before, t.label))
        × IsSound modules (branch_to st (record a { stack = us }) callers (Some (t.before, t.label))).0
    to_label us lower taken l e t =
        let cut = cut_three us t.inside.below (t.more ++ lower) taken
        (regrouped inner.below t.inside.below t.more lower taken (map type_of us) t.below e) in
        cut_label us l taken t cut.0 cut.1 cut.2 cut.3 cut.4 cut.5

    -- to this label, or out of the function
    pub branch : (us : List Value) (lower taken : List ValueType) (l : ℕ)
        → map type_of us ≡ inner.below ++ (lower ++ taken) → slice_get inner.context.labels l ≡ Some taken
        → CanBranch a.labels a.arity us l × IsSound modules (branch_by st (record a { stack = us }) callers l).0
    branch us lower taken l e at =
        let all : length inner.context.labels ≡ length a.labels + 1 = labels_long a.labels (outermost c) inner h
        ∙ ap (λ (x : Context). length a.labels + length x.labels) f.context_is in
        let here : l < length inner.context.labels = slice_get_within inner.context.labels l taken at in
        let most : l ≤ length a.labels = omega (arith, all, here) in
        go most (cases_lt l (length a.labels))
      where
        both : (m : Option (List Label × Label)) → split_last (take (length a.labels - l) a.labels) ≡ m
            → l ≤ length a.labels → AreKept a.arity us m
            × IsSound modules (branch_to st (record a { stack = us }) callers m).0
            → CanBranch a.labels a.arity us l × IsSound modules (branch_by st (record a { stack = us }) callers l).0
        both m is most r =
            let same : AreKept a.arity us (split_last (take (length a.labels - l) a.labels))
            × IsSound modules (branch_to st (record a { stack = us }) callers
            (split_last (take (length a.labels - l) a.labels))).0 =
            subst (λ (x : Option (List Label × Label)). AreKept a.arity us x
            × IsSound modules (branch_to st (record a { stack = us }) callers x).0) (sym is) r in (
              (most, same.0),
              if_sound modules (nat_le l (length a.labels))
                  (branch_to st (record a { stack = us }) callers (split_last (take (length a.labels - l) a.labels)))
                  same.1,
            )

        go : l ≤ length a.labels → (l < length a.labels) ⊎ (length a.labels ≤ l) → CanBranch a.labels a.arity us l
            × IsSound modules (branch_by st (record a { stack = us }) callers l).0
        go most (inl less) = let t = target a.labels (outermost c) inner l taken less h at in
            both (Some (t.before, t.label)) t.is_last most (to_label us lower taken l e t)
        go most (inr more) =
            let none : length a.labels - l ≡ 0 = omega arith in
            let index : length a.labels + 0 ≡ l = omega arith in
            let own : slice_get inner.context.labels l ≡ Some returns =
            ap (slice_get inner.context.labels) (sym index) ∙ past_labels a.labels (outermost c) inner 0 h
            ∙ ap (λ (x : Context). slice_get x.labels 0) f.context_is
            ∙ ap (λ (x : List ValueType). Some x) (sym f.returns_is) in
            let same : taken ≡ returns = same_at (slice_get inner.context.labels l) taken returns at own in
            both None (ap (λ (n : ℕ). split_last (take n a.labels)) none) most
            (left a us (inner.below ++ lower) (e ∙ sym (append_assoc inner.below lower taken)
            ∙ ap (λ (x : List ValueType). inner.below ++ lower ++ x) same) returns_long)
