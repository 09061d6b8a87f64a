-- The modules of a program link, and do what the program does, where they are typed.
use Rattle.std.proofs.Common.{◌≡◌, [], ◌∷◌, ◌++◌, length, Some, refl, sym, ap, ◌∙◌, append_assoc, arith}
use Rattle.std.specs.Prelude.{slice_get, All}
use Rattle.std.proofs.lemmas.List.Elements.{All-cons, All-nil}
use Rattle.typed_tree.specs.declared.typed_module.TypedModule.{TypedModule}
use Rattle.layout_storage.specs.Sizes.{size}
use Rattle.def_meaning.specs.Runs.{body_frame}
use Rattle.law_modules.specs.Linked.{Program}
use Rattle.law_simulation.specs.RunsPrograms.{IsSound}
use Rattle.law_simulation.proofs.Fits.{module_fits}
use Rattle.law_simulation.proofs.BodiesPrograms.{typed_programs}
use Rattle.law_simulation.specs.Modules.{AreModules}
use Rattle.law_simulation.specs.LinkedLaws.{TypedBehave}
use Rattle.law_simulation.proofs.Linked.{is_linked}
use Rattle.law_simulation.proofs.LinkedParts.{typed_routine, typed_main}

at_seam : (before rest : Program) (m : TypedModule) → slice_get (before ++ m ∷ rest) (length before) ≡ Some m
at_seam [] rest m = refl
at_seam (x ∷ before) rest m = at_seam before rest m

frame_bytes : body_frame ≡ 16
unfolding size
frame_bytes = refl

-- each module is sound
all_sound : (before rest p : Program) → p ≡ before ++ rest → AreModules p → All IsSound rest
all_sound before [] p is modules = All-nil IsSound
all_sound before (m ∷ rest) p is modules =
    let one = modules (length before) m (ap (λ (q : Program). slice_get q (length before)) is ∙ at_seam before rest m)
    in
    All-cons IsSound m rest (record { fit = module_fits m one.ranged; small = one.texts })
    (all_sound (before ++ m ∷ []) rest p (is ∙ sym (append_assoc before (m ∷ []) rest)) modules)

pub typed_behave : TypedBehave
typed_behave p pages linkable room most few modules typed =
    typed_programs p pages linkable (all_sound [] p p refl modules) (let c = frame_bytes in omega (arith, c, room))
    (λ n. record {
      linked = λ place m there. is_linked p pages linkable.distinct few
          (λ place m there. (modules place m there).coherent) place m there;
      procedures = λ o. typed_routine p pages most linkable.distinct modules n typed o;
      bodies = λ place m there. typed_main p pages most linkable.distinct modules n typed place m there;
    })
