-- What a program does does not depend on the numbers of instances.
use Rattle.std.proofs.Common.{◌≡◌, ℕ, List, ◌++◌, Ok, refl, sym, ap, subst, ◌∙◌}
use Rattle.wasm_tree.specs.declared.module.WModule.{WModule}
use Rattle.wasm_tree.specs.declared.store.Store.{Store}
use Rattle.wasm_tree.specs.Machine.{Config, Over, run}
use Rattle.law_effect.specs.Laws.{IsOver}
use Rattle.def_meaning.specs.Later.{output_of}
use Rattle.def_meaning.specs.Outcome.{Outcome}
use Rattle.law_simulation.specs.Behaves.{Behaves}
use Rattle.law_orders.specs.Renumbered.{AreAlike, SameConfig, BothGo, BothEnd, BothTrap, SameProgress}
use Rattle.law_orders.proofs.Renumbered.{runs_are_alike}

module _ (number : ℕ → ℕ) (st new : Store) where
  over_same : (c d : Config) → SameConfig number st new c d → IsOver c → d ≡ c
  over_same _ _ (BothGo ms now callers) over = absurd over
  over_same _ _ (BothEnd k) over = refl
  over_same _ _ BothTrap over = refl

  over_back : (c d : Config) → SameConfig number st new c d → IsOver d → IsOver c
  over_back _ _ (BothGo ms now callers) over = over
  over_back _ _ (BothEnd k) over = over
  over_back _ _ BothTrap over = over

module _ (number : ℕ → ℕ) (modules others : List WModule) (st new : Store)
    (alike : AreAlike number modules others st new) (c d : Config) (same : SameConfig number st new c d)
    (program : ℕ → Outcome) (h : Behaves modules c program) where
  at : (m : ℕ) → SameProgress number st new (run modules m c) (run others m d)
  at m = runs_are_alike number modules others st new alike c d same m

  -- where the first run is over, the second one is too
  over_at : (m : ℕ) (e : Config) (out : List ℕ) → run modules m c ≡ (e, out) → IsOver e → run others m d ≡ (e, out)
  over_at m e out is over =
      let one : (run modules m c).0 ≡ e = ap (λ (p : Config × List ℕ). p.0) is in
      let two : (run others m d).0 ≡ (run modules m c).0 =
      over_same number st new (run modules m c).0 (run others m d).0 (at m).config (subst IsOver (sym one) over) in
      ap (λ (x : Config). (x, (run others m d).1)) (two ∙ one)
      ∙ ap (λ (o : List ℕ). (e, o)) ((at m).printed ∙ ap (λ (p : Config × List ℕ). p.1) is)

  over_before : (m : ℕ) (e : Config) (out : List ℕ) → run others m d ≡ (e, out) → IsOver e → run modules m c ≡ (e, out)
  over_before m e out is over =
      let one : (run others m d).0 ≡ e = ap (λ (p : Config × List ℕ). p.0) is in
      let was : IsOver (run modules m c).0 =
      over_back number st new (run modules m c).0 (run others m d).0 (at m).config (subst IsOver (sym one) over) in
      let two : (run others m d).0 ≡ (run modules m c).0 =
      over_same number st new (run modules m c).0 (run others m d).0 (at m).config was in
      ap (λ (x : Config). (x, (run modules m c).1)) (sym two ∙ one)
      ∙ ap (λ (o : List ℕ). (e, o)) (sym (at m).printed ∙ ap (λ (p : Config × List ℕ). p.1) is)

  pub behaves_so : Behaves others d program
  behaves_so = record {
    ends = λ n k out e. let x = h.ends n k out e in (x.0, over_at x.0 (Over k) out x.1 tt);
    goes_on = λ k m over. h.goes_on k m (over_back number st new (run modules m c).0 (run others m d).0 (at m).config
        over);
    only = λ m e out over is. h.only m e out over (over_before m e out is over);
    prints = λ m. let x = h.prints m in (x.0, x.1, x.2 ∙ ap (λ (o : List ℕ). o ++ x.1) (sym (at m).printed));
    prints_also = λ n out e. let x = h.prints_also n out e in (x.0, x.1, (at x.0).printed ∙ x.2);
  }
