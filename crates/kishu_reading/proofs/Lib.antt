mod CodeExamples
mod Examples
