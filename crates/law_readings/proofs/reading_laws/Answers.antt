use Rattle.law_readings.proofs.Reading.{readings_alike, modules_alike}
use Rattle.law_readings.proofs.reading_laws.Goals as goal

pub returns : goal.returns
returns c = record { alike = readings_alike; modules = modules_alike }
