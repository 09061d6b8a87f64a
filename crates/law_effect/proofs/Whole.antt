-- What the machine comes to is what the effect says: by the bound that is the number of reductions.
use Rattle.std.proofs.Common.{◌≡◌, ℕ, zero, suc, ◌+◌, ◌-◌, ◌≤◌, ◌<◌, ⊎_elim, List, [], ◌++◌, length, Bool, true, false, nat_le, Some, if◌then◌else◌, refl, sym, ap, ◌∙◌, subst, arith}
use Rattle.std.proofs.lemmas.List.{append-nil}
use Rattle.std.proofs.lemmas.Bool.{cases_lt}
use Rattle.wasm_tree.specs.declared.module.WModule.{WModule}
use Rattle.wasm_tree.specs.Machine.{Config, Going, Over, Trapped, Progress, reduce, run}
use Rattle.law_effect.specs.Effect.{Effect, FellThrough, Branched, Returned, Ended, Traps, StillRunning, calling, nest_calls}
use Rattle.law_effect.specs.Laws.{after, Reaches, GoesOn, RunLeads, comes, output_shown, IsOver, Only, Prints, NestedOnly, NestedPrints}
use Rattle.law_effect.proofs.Reaching.{run-add, got}
use Rattle.law_effect.proofs.Follows.{runs, nested_runs}

module _ (modules : List WModule) where
  stays : (d : Config) → IsOver d → (i : ℕ) → run modules i d ≡ got d []
  unfolding run reduce
  stays d o zero = refl
  stays (Going store now callers) o (suc i) = absurd o
  stays (Over k) o (suc i) = stays (Over k) o i
  stays Trapped o (suc i) = stays Trapped o i

  -- a run in two parts
  parted : (i j : ℕ) (c : Config) → j ≤ i
      → run modules i c ≡ after (run modules j c).1 (run modules (i - j) (run modules j c).0)
  parted i j c le = let e : i ≡ j + (i - j) = omega (arith, le) in
      ap (λ k. run modules k c) e ∙ run-add modules j (i - j) [] c

  later : (i j : ℕ) (c d : Config) (out : List ℕ) → IsOver d → run modules j c ≡ got d out → j ≤ i
      → run modules i c ≡ got d out
  later i j c d out o e le =
      parted i j c le ∙ ap (λ (x : Progress). after x.1 (run modules (i - j) x.0)) e
      ∙ ap (after out) (stays d o (i - j)) ∙ ap (got d) (append-nil out)

  module _ (c : Config) (j : ℕ) where
    same : (d d' : Config) (out out' : List ℕ) → IsOver d → IsOver d' → run modules j c ≡ got d out
        → Reaches modules c [] d' out' → got d' out' ≡ got d out
    same d d' out out' o o' e r = sym (later (r.count + j) r.count c d' out' o' r.path (omega arith))
        ∙ later (r.count + j) j c d out o e (omega arith)

    not_both : (d : Config) (out out' : List ℕ) → IsOver d → run modules j c ≡ got d out → GoesOn modules j c [] out'
        → ⊥
    not_both d out out' o e g = subst IsOver
        (ap (λ (x : Progress). x.0) (sym (later g.count j c d out o e g.enough) ∙ g.path)) o

    -- a beginning of what is printed
    begins : (i : ℕ) (d : Config) (out : List ℕ) → run modules i c ≡ got d out → j ≤ i → (rest : List ℕ)
        × (out ≡ (run modules j c).1 ++ rest)
    begins i d out e le = (
      (run modules (i - j) (run modules j c).0).1,
      ap (λ (x : Progress). x.1)
          (sym e ∙ parted i j c le),
    )

    printed : (d : Config) (out : List ℕ) → IsOver d → Reaches modules c [] d out → (rest : List ℕ)
        × (out ≡ (run modules j c).1 ++ rest)
    printed d out o r =
        ⊎_elim
        (λ (less : r.count < j).
        let there : (run modules j c).1 ≡ out =
        ap (λ (x : Progress). x.1) (later j r.count c d out o r.path (omega (arith, less))) in
        ([], sym there ∙ sym (append-nil (run modules j c).1)))
        (λ (ge : j ≤ r.count). begins r.count d out r.path ge)
        (cases_lt r.count j)

  over_if : (b : Bool) → IsOver (if b then Over 0 else Trapped)
  over_if true = tt
  over_if false = tt

  only : (arity j : ℕ) (c d : Config) (out : List ℕ) (e : Effect) → IsOver d → run modules j c ≡ got d out
      → RunLeads modules j arity c e → comes arity e ≡ Some (d, out)
  only arity j c d out (FellThrough st stack) o p l =
      ap (λ (x : Progress). Some x) (same c j d _ out st.out o (over_if (nat_le arity (length stack))) p l)
  only arity j c d out (Branched zero st stack) o p l =
      ap (λ (x : Progress). Some x) (same c j d _ out st.out o (over_if (nat_le arity (length stack))) p l)
  only arity j c d out (Branched (suc k) st stack) o p l =
      ap (λ (x : Progress). Some x) (same c j d Trapped out st.out o tt p l)
  only arity j c d out (Returned st stack) o p l =
      ap (λ (x : Progress). Some x) (same c j d _ out st.out o (over_if (nat_le arity (length stack))) p l)
  only arity j c d out (Ended k bytes) o p l = ap (λ (x : Progress). Some x) (same c j d (Over k) out bytes o tt p l)
  only arity j c d out (Traps bytes) o p l = ap (λ (x : Progress). Some x) (same c j d Trapped out bytes o tt p l)
  only arity j c d out (StillRunning bytes) o p l = absurd (not_both c j d out bytes o p l)

  prints : (arity j : ℕ) (c : Config) (e : Effect) → RunLeads modules j arity c e → (rest : List ℕ)
      × (output_shown e ≡ (run modules j c).1 ++ rest)
  prints arity j c (FellThrough st stack) l = printed c j _ st.out (over_if (nat_le arity (length stack))) l
  prints arity j c (Branched zero st stack) l = printed c j _ st.out (over_if (nat_le arity (length stack))) l
  prints arity j c (Branched (suc k) st stack) l = printed c j Trapped st.out tt l
  prints arity j c (Returned st stack) l = printed c j _ st.out (over_if (nat_le arity (length stack))) l
  prints arity j c (Ended k bytes) l = printed c j (Over k) bytes tt l
  prints arity j c (Traps bytes) l = printed c j Trapped bytes tt l
  prints arity j c (StillRunning bytes) l = begins c j l.count _ bytes l.path l.enough

pub run_only : Only
run_only modules fx extra m f t bytes j d out o p =
    only modules (length t.type.results) j _ d out (calling modules fx extra j (suc j) m f t [] bytes []) o p
    (runs modules fx extra j m f t bytes)

pub run_prints : Prints
run_prints modules fx extra m f t bytes j =
    prints modules (length t.type.results) j _ (calling modules fx extra j (suc j) m f t [] bytes [])
    (runs modules fx extra j m f t bytes)

pub nested_only : NestedOnly
nested_only modules fx serves extra d m f none t bytes j le end out o p =
    only modules (length t.type.results) j _ end out (nest_calls modules fx serves extra j (suc d) m f t [] bytes []) o
    p (nested_runs modules fx serves extra j d m f le none t bytes)

pub nested_prints : NestedPrints
nested_prints modules fx serves extra d m f none t bytes j le =
    prints modules (length t.type.results) j _ (nest_calls modules fx serves extra j (suc d) m f t [] bytes [])
    (nested_runs modules fx serves extra j d m f le none t bytes)
