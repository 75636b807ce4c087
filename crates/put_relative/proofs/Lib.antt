mod Stems
mod Forms
