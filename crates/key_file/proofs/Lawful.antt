-- What is accepted is lawful.
use Rattle.layout_reader.specs.Layouts.{KeyLayout}
use Rattle.key_file.specs.Accepted.{IsAcceptedFor, IsLawfulFor}
use Rattle.key_file.specs.Histories.{KeyHistory}

-- a history that is accepted for a layout is lawful for it
pub lawful_for : {layout : KeyLayout} {history : KeyHistory} → IsAcceptedFor layout history → IsLawfulFor layout history
lawful_for ok = record { lawful = ok.accepted.lawful; places = ok.places }
