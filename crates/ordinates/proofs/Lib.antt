pub mod OrdinateSets
