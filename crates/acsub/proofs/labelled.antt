pub mod LabelledLemmas
