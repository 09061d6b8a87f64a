use Rattle.std.proofs.Common.{◌∙◌, ◌∷◌, [], ap, map, inr}
use Rattle.std.specs.String.{string_bytes}
use Rattle.wasm_tree.specs.Linking.{link_name}
use Rattle.wasm_tree.specs.declared.fault.WFault.TheVariants.{NoMemory}
use Rattle.run_directory.specs.declared.report.Report.TheVariants.{Refused}
use Rattle.run_directory.specs.Directory.{module_names}
use Rattle.run_directory.proofs.Saying.{nothing}
use Rattle.run_directory.proofs.Missing.{refused_behind, comes_behind}
use Rattle.run_directory.proofs.runner.execute.Goals as goal

pub returns-in_default : goal.returns-in_default
returns-in_default g c =
    let found = c.in-Ok.ensures.ok in
    record {
      report = Refused (record { ref_ptr = (0, 0); now = link_name }) NoMemory;
      reads = found.0 ∷ [];
      has_read = found.1;
      comes = inr (
        refused_behind found.0 (record { ref_ptr = (0, 0); now = link_name }) c.in-Ok.link found.2,
        nothing
            g.S.Sink.reported g.S.Sink.failed c.args.out.now,
      );
      answers = c.write_report-in_default.ensures.status;
      all_said = c.write_report-in_default.ensures.says.0;
      says = c.write_report-in_default.ensures.says.1;
    }

pub returns-in_default-alone : goal.returns-in_default-alone
returns-in_default-alone g c =
    let found = c.in-Ok.ensures.ok in
    record {
      report = Refused (record { ref_ptr = (0, 0); now = link_name }) NoMemory;
      reads = found.0 ∷ [];
      has_read = found.1;
      comes = inr (
        refused_behind found.0 (record { ref_ptr = (0, 0); now = link_name }) c.in-Ok.link found.2,
        nothing
            g.S.Sink.reported g.S.Sink.failed c.args.out.now,
      );
      answers = c.write_report-in_default-alone.ensures.status;
      all_said = c.write_report-in_default-alone.ensures.says.0;
      says = c.write_report-in_default-alone.ensures.says.1;
    }

pub returns-in-Err : goal.returns-in-Err
returns-in-Err g c =
    let missing = c.in-Err.ensures.err in
    record {
      report = c.in-Err.report;
      reads = missing.0;
      has_read = missing.1;
      comes = inr (missing.2, nothing g.S.Sink.reported g.S.Sink.failed c.args.out.now);
      answers = c.write_report.ensures.status;
      all_said = c.write_report.ensures.says.0;
      says = c.write_report.ensures.says.1;
    }

pub returns : goal.returns
returns g c =
    let all = comes_behind g.D.InDir.reads g.D.InDir.gives g.S.Sink.reported g.S.Sink.failed c.args.dir.now
    c.module_of.new.dir c.run_named-report.new.dir c.in-Ok.link c.in-Ok.ensures.ok c.args.steps
    c.run_named-report.result c.args.out.now c.run_named-report.new.out
    c.in-Ok-alone.first.items (map string_bytes c.deref.result.now) c.in-Ok-alone.ensures
    (ap (map string_bytes) c.deref.ensures.value ∙ c.in-Ok-module_names.ensures ∙ ap module_names c.exports.ensures)
    c.run_named-report.ensures in
    record {
      report = c.run_named-report.result;
      reads = all.0;
      has_read = all.1;
      comes = all.2;
      answers = c.write_report-2.ensures.status;
      all_said = c.write_report-2.ensures.says.0;
      says = c.write_report-2.ensures.says.1;
    }
