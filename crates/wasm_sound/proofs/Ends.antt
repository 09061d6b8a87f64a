-- The end of a block or of a function.
use Rattle.std.proofs.Common.{◌≡◌, ◌+◌, List, [], ◌∷◌, ◌++◌, length, map, Option, Some, None, refl, sym, ap, subst, ◌∙◌, append_assoc, arith}
use Rattle.std.proofs.lemmas.List.{append-nil, length-append}
use Rattle.wasm_tree.specs.declared.kinds.ValueType.{ValueType}
use Rattle.wasm_tree.specs.declared.instr.Instr.{Instr}
use Rattle.wasm_tree.specs.declared.module.WModule.{WModule}
use Rattle.wasm_tree.specs.declared.store.Store.{Store}
use Rattle.wasm_tree.specs.Validity.{Context, Leads}
use Rattle.wasm_tree.specs.Machine.{Label, Activation, split_last, end_block}
use Rattle.wasm_tree.specs.Linking.{type_of}
use Rattle.wasm_sound.specs.Sound.{Through, Level, Opens, outermost, IsActivation, IsSound}
use Rattle.wasm_sound.specs.Ready.{IsReadyToEnd}
use Rattle.wasm_sound.proofs.Lists.{push_from_last, nil_from_last, through_pop}
use Rattle.wasm_sound.proofs.Rules.{no_code}
use Rattle.wasm_sound.proofs.Scenes.{Outside, going}
use Rattle.wasm_sound.proofs.Branches.{length_typed, left}

module _ (modules : List WModule) (st : Store) (callers : List Activation) (returns : List ValueType)
    (o : Outside modules st callers returns) (now : Activation) (h : IsActivation modules returns now [])
    (no_more : now.rest ≡ []) where
  given_is : h.above ≡ h.inner.gives
  given_is = no_code h.inner.context h.above h.inner.gives
      (subst (λ (is : List Instr). Leads h.inner.context is h.above h.inner.gives) no_more h.leads)

  stack_is : map type_of now.stack ≡ h.inner.below ++ h.inner.gives
  stack_is = sym (append-nil (map type_of now.stack)) ∙ h.stack
      ∙ ap (λ (x : List ValueType). h.inner.below ++ x) given_is

  function_end : now.labels ≡ [] → IsReadyToEnd now None × IsSound modules (end_block st now callers None).0
  function_end none =
      let level : outermost h.context ≡ h.inner =
      subst (λ (ls : List Label). Through Opens (outermost h.context) ls h.inner) none h.labels in
      let typed : map type_of now.stack ≡ h.context.returns = stack_is
      ∙ ap (λ (l : Level). l.below ++ l.gives) (sym level) in
      let own : h.context.returns ≡ returns = ap (λ (c : Context). c.returns) h.frame.context_is
      ∙ sym h.frame.returns_is in
      let size : now.arity ≡ length returns = h.frame.arity_is ∙ ap length (sym h.frame.returns_is) in
      let all : map type_of now.stack ≡ returns = typed ∙ own in
      (length_typed now.stack returns all ∙ sym size, (left modules st callers returns o now now.stack [] all size).1)

  block_end : (ls : List Label) (l : Label) → now.labels ≡ ls ++ l ∷ [] → IsReadyToEnd now (Some (ls, l))
      × IsSound modules (end_block st now callers (Some (ls, l))).0
  block_end ls l is =
      let out = through_pop Opens ls l (outermost h.context) h.inner
      (subst (λ (x : List Label). Through Opens (outermost h.context) x h.inner) is h.labels) in
      let long : length now.stack ≡ length h.inner.below + length h.inner.gives =
      length_typed now.stack (h.inner.below ++ h.inner.gives) stack_is
      ∙ length-append h.inner.below h.inner.gives in
      let height : l.height ≡ length h.inner.below = out.2.height in
      let new : IsActivation modules returns (record now { labels = ls; rest = l.rest }) [] = record {
        context = h.context;
        inner = out.0;
        above = out.2.between ++ h.inner.gives;
        frame = h.frame;
        labels = out.1;
        stack =
            append-nil (map type_of now.stack)
            ∙ (stack_is
            ∙ (ap (λ (x : List ValueType). x ++ h.inner.gives) out.2.below
            ∙ append_assoc out.0.below out.2.between h.inner.gives));
        leads = out.2.rest;
      } in
      (omega (arith, long, height), going modules st callers returns (record now { labels = ls; rest = l.rest }) o new)

  pub end : IsReadyToEnd now (split_last now.labels)
      × IsSound modules (end_block st now callers (split_last now.labels)).0
  end = go (split_last now.labels) refl
    where
      go : (m : Option (List Label × Label)) → split_last now.labels ≡ m → IsReadyToEnd now m
          × IsSound modules (end_block st now callers m).0
      go None e = function_end (nil_from_last now.labels e)
      go (Some p) e = block_end p.0 p.1 (push_from_last now.labels p e)
