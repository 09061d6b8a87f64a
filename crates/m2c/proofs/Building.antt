-- What is printed and saved of a build.
use Rattle.std.proofs.Common.{◌≡◌, ℕ, ◌+◌, ◌<◌, Bool, true, List, [], ◌∷◌, ◌++◌, length, take, map, get_or, Option, Result, String, refl, sym, ap, subst, ◌∙◌}
use Rattle.std.specs.Bool.{⊤}
use Rattle.std.specs.List.{flat_map}
use Rattle.std.specs.Global.{Global, Vec}
use Rattle.std.proofs.lemmas.List.{append-nil, take_more}
use Rattle.std.proofs.lemmas.Grind.{flat_map-append}
use Rattle.run_directory.specs.Reported.{Printed, Says}
use Rattle.run_directory.proofs.Saying.{says_more}
use Rattle.build_jobs.specs.declared.file.SourceFile.{SourceFile}
use Rattle.m2_tree.specs.declared.refusal.Refusal.{Refusal}
use Rattle.write_directory.specs.declared.fault.SaveFault.{SaveFault}
use Rattle.write_directory.specs.Calls.{Call, module_file}
use Rattle.write_directory.specs.Saves.{Saves}
use Rattle.m2c.specs.declared.files.Outcome.TheVariants as outcome
use Rattle.m2c.specs.Build.{IsBuilt}
use Rattle.m2_tree.specs.Lines.{line_of}
use Rattle.m2c.specs.Compiles.{IsRefused, IsSaved}

module _ {S : Type 0} (reported : S → Option (List ℕ)) (failed : S → ℕ) where
  -- one more thing is printed
  pub said_more : {X : Type 0} (text : X → List ℕ) (xs : List X) (k : ℕ) (x : X) (before between after : S)
      → k < length xs → x ≡ get_or xs k x
      → Printed reported failed (flat_map text (take k xs)) before between
      → Printed reported failed (text x) between after
      → Printed reported failed (flat_map text (take (k + 1) xs)) before after
  said_more {X = X} text xs k x before between after h is so_far next =
      subst (λ (b : List ℕ). Printed reported failed b before after) (sym split)
      (says_more reported failed true (flat_map text (take k xs)) (text x) before between after so_far next)
    where
      split : flat_map text (take (k + 1) xs) ≡ flat_map text (take k xs) ++ text x
      split =
          ap (flat_map text) (take_more xs k x h)
          ∙ flat_map-append text (take k xs) (get_or xs k x ∷ [])
          ∙ ap (λ (t : List ℕ). flat_map text (take k xs) ++ t) (append-nil (text (get_or xs k x)))
          ∙ ap (λ (y : X). flat_map text (take k xs) ++ text y) (sym is)

module _ {D S : Type 0} (calls : D → Option (List Call)) (failures : D → ℕ) (reported : S → Option (List ℕ))
    (failed : S → ℕ) (files : List SourceFile) (pages : ℕ) where
  pub is_refused : (all : Bool) (refusals : Vec Refusal) (slice : List Refusal) → slice ≡ refusals.items
      → IsBuilt files pages (outcome.Refused refusals)
      → (dir : D) (out after : S) → Says reported failed all (flat_map line_of slice) out after
      → IsRefused calls failures reported failed files pages all dir dir out after
  is_refused all refusals slice e built dir out after says = record {
    refusals = refusals;
    built = built;
    prints = subst (λ (rs : List Refusal). Says reported failed all (flat_map line_of rs) out after) e says;
    same = refl;
  }

  pub is_saved : (answer : Result ⊤ SaveFault) (link : Vec ℕ) (modules : Vec (String Global × Vec ℕ))
      (link_slice : List ℕ) (slice : List (String Global × Vec ℕ)) → link_slice ≡ link.items → slice ≡ modules.items
      → IsBuilt files pages (outcome.Built link modules) → (dir after : D) (out : S)
      → Saves calls failures link_slice (map module_file slice) answer dir after
      → IsSaved calls failures reported failed files pages answer dir after out out
  is_saved answer link modules link_slice slice e f built dir after out saves = record {
    link = link;
    modules = modules;
    built = built;
    saves = subst (λ (ms : List (String Global × Vec ℕ)). Saves calls failures link.items (map module_file ms) answer
        dir after) f
        (subst (λ (l : List ℕ). Saves calls failures l (map module_file slice) answer dir after) e saves);
    same = refl;
  }
