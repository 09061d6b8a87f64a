use Rattle.law_linking.proofs.Linking.{linking_builds}
use Rattle.law_linking.proofs.linking_is_building.Goals as goal

pub returns : goal.returns
returns c = linking_builds
