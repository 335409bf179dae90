-- The parts of an edit's object, as the reader holds them.
use Rattle.serde_json.specs.View.{view}
use Rattle.edit_json.specs.declared.batches.Asked.{Asked}
use Rattle.edit_json.specs.declared.batches.Asked.TheVariants as asked
use Rattle.edit_json.specs.Batches.{AskedData, put_asked, delete_asked}

abbrev pub asked_data : Asked → AskedData
asked_data (asked.Put id feature) = put_asked id (view feature.now)
asked_data (asked.Delete id) = delete_asked id
