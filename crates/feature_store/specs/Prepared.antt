-- Changes as the map keeps them.
use Rattle.feature_model.specs.Data.{ChangeData, put, delete}
use Rattle.feature_store.specs.declared.prepared.Prepared.{Prepared}
use Rattle.feature_store.specs.declared.prepared.Prepared.TheVariants as kinds

-- the change
abbrev pub prepared_data : Prepared → ChangeData
prepared_data (kinds.Put stored) = put stored.0 stored.1
prepared_data (kinds.Delete id) = delete id
